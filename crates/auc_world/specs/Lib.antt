pub mod Phases
pub mod Chain
pub mod SingleState
pub mod Lots
pub mod SinglePhase
