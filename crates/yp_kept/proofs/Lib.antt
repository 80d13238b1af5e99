pub mod Keys
pub mod Leading
pub mod Led
pub mod OnWay
pub mod Sets
pub mod Ways
