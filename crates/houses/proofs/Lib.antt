pub mod PriceTable
pub mod HouseLaws
