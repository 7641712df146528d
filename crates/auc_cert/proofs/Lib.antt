-- for use above
pub mod WriteLaws
-- for this crate
mod NumberWords
mod WordLaws
mod SizeLaws
mod FormLaws
mod LineLaws
mod SecondLineLaws
mod RunLaws
mod RisingRuns
mod TextLines
mod ChoiceLaws
mod NameLaws
mod CertLaws
mod WorkedClaims
