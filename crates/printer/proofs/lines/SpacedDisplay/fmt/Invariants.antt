use Rattle.std.proofs.Common.{map, take, decimal}
use Rattle.std.specs.Fmt.{HasWritten, IsPlainFormatter}
use Rattle.printer.specs.Lines.{spaced}
use Rattle.printer.proofs.lines.SpacedDisplay.fmt.Given as goal

abbrev pub invariant-loop-number : goal.invariant-loop-number
invariant-loop-number g l =
    IsPlainFormatter l.initial.f → HasWritten g.W.Write.write_str_gives l.initial.f (spaced (map decimal (take l.number-index l.number-items))) l.f
