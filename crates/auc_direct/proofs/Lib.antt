mod HeldLaws
mod Choices
mod HallLaws
mod EndingLaws
mod Answering
mod Ceilings
mod Running
mod AdoptLaws
