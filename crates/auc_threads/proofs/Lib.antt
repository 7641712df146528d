pub mod CallingLaws
pub mod TakingLaws
pub mod PostingLaws
pub mod ShownLaws
pub mod StepLaws
pub mod SalesLaws
pub mod DealingLaws
pub mod BuyingLaws
pub mod PlacedLaws
pub mod CountingLaws
pub mod HearingLaws
pub mod AskingLaws
pub mod StartsLaws
pub mod WorkedLaws
pub mod SenderLaws
pub mod PhaseLaws
pub mod SolvedLaws
mod WorkedPosts
