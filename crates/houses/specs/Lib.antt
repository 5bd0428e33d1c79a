pub mod Houses
pub mod HouseLoads
