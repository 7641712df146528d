mod AskLaws
mod CommandFits
mod GrammarLaws
mod WalkLaws
mod WordLaws
mod WrongLines
