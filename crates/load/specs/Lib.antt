-- `load`: the test load of 02's CR 8, what fills lent blocks with it, and that it is corrected completely.
pub mod Draws
pub mod Load
pub mod Filling
pub mod Corrected
pub mod Examples
pub mod Main
