use Rattle.std.proofs.Common.{◌≡◌, Ok, Err, Result, refl, ◌∙◌, ap}
use Rattle.std.proofs.lemmas.Result.{err_from_is_err_and}
use Rattle.std.specs.Result.{result_and}
use Rattle.costs.specs.declared.kind.Kind as kind
use Rattle.calls.specs.declared.answer.Answer.TheVariants.{Accepted}
use Rattle.calls.specs.declared.refusal.Refusal.{Refusal}
use Rattle.jobs.specs.Jobs.{answer_of, opening}
use Rattle.jobs.proofs.job.Job.act.Goals as goal

accepts : {V : Type 0} (k : kind.Ghosts V) (r : Result (Unit {0}) Refusal) → answer_of k (result_and r (Ok Accepted)) ≡ opening k r
accepts k (Ok _) = refl
accepts k (Err why) = refl

pub returns-in-OpenChecked : goal.returns-in-OpenChecked
returns-in-OpenChecked g c =
    rw (c.in-OpenChecked.is, ap (answer_of g.S.Kind.Kind) c.and.ensures ∙ accepts g.S.Kind.Kind c.open_checked.result)
    (c.open_checked.ensures.did c.args.bound c.args.cells.now)

pub returns-in-OpenVouched : goal.returns-in-OpenVouched
returns-in-OpenVouched g c =
    rw (c.in-OpenVouched.is, ap (answer_of g.S.Kind.Kind) c.and-in-OpenVouched.ensures ∙ accepts g.S.Kind.Kind c.open_under.result)
    (c.open_under.ensures c.args.cells.now)

pub returns-in_ok-add_cut-in-Add : goal.returns-in_ok-add_cut-in-Add
returns-in_ok-add_cut-in-Add g c = rw c.in-Add.is (c.in_ok-add_cut-in-Add.ensures c.args.bound)

pub returns-in_err-add_cut-in-Add : goal.returns-in_err-add_cut-in-Add
returns-in_err-add_cut-in-Add g c =
    let p = err_from_is_err_and c.from_residual.result c.from_residual.ensures.1 in
    rw (c.in-Add.is, p.1, p.2) (c.in_err-add_cut-in-Add.ensures c.args.bound)

pub returns-in_ok-drop_cut-in-Drop : goal.returns-in_ok-drop_cut-in-Drop
returns-in_ok-drop_cut-in-Drop g c = rw c.in-Drop.is (c.in_ok-drop_cut-in-Drop.ensures c.args.bound)

pub returns-in_err-drop_cut-in-Drop : goal.returns-in_err-drop_cut-in-Drop
returns-in_err-drop_cut-in-Drop g c =
    let p = err_from_is_err_and c.from_residual-in_err-drop_cut-in-Drop.result c.from_residual-in_err-drop_cut-in-Drop.ensures.1 in
    rw (c.in-Drop.is, p.1, p.2) (c.in_err-drop_cut-in-Drop.ensures c.args.bound)

pub returns-in_ok-reach-in-Reach : goal.returns-in_ok-reach-in-Reach
returns-in_ok-reach-in-Reach g c = rw c.in-Reach.is (c.in_ok-reach-in-Reach.ensures c.args.bound)

pub returns-in_err-reach-in-Reach : goal.returns-in_err-reach-in-Reach
returns-in_err-reach-in-Reach g c =
    let p = err_from_is_err_and c.from_residual-in_err-reach-in-Reach.result c.from_residual-in_err-reach-in-Reach.ensures.1 in
    rw (c.in-Reach.is, p.1, p.2) (c.in_err-reach-in-Reach.ensures c.args.bound)
