-- All of these are this crate's own.
mod PhaseLaws
mod ChainLaws
mod Distinct
mod SingleMails
mod SingleSales
mod SingleHearing
mod SingleCounting
mod SingleLaws
mod SingleSteps
mod SingleStops
mod SinglePhase
mod SingleEnds
