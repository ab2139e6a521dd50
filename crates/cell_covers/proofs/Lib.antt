pub mod ClimbLemmas
pub mod SetLemmas
pub mod FindLemmas
pub mod DropLemmas
pub mod NamingLemmas
pub mod DeadLemmas
pub mod HeldLemmas
