mod NameLaws
mod PhraseLaws
