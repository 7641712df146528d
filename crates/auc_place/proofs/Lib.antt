mod TokenLaws
mod PlaceLaws
