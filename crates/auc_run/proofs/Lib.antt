-- All of this is the crate's own.
mod ProblemLaws
mod VerdictLaws
mod ReplyLaws
mod CompletionLaws
mod PriceLaws
mod StartLaws
mod OutcomeLaws
