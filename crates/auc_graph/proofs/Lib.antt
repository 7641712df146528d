-- for use above
pub mod RisingLaws
pub mod PriceLaws
pub mod DualLaws
pub mod LowerLaws
pub mod LowerRange
pub mod InMemoryLaws
pub mod Scale
pub mod ValueBounds
pub mod RowLaws
pub mod LayoutLaws
pub mod ArcLaws
pub mod BoundLaws
-- for this crate
mod TokenLaws
mod MagnitudeLaws
mod NumberLaws
mod StepLaws
mod ShortLaws
mod WrittenLaws
mod AlikeLaws
mod PieceLaws
mod EndLaws
mod CountLaws
mod SpreadLaws
mod InOrderLaws
mod LeastLaws
mod PriceSums
mod WorkedTexts
mod WorkedRows
mod WorkedDual
