pub mod ViewPushes
pub mod SpanLemmas
pub mod FirstBracket
pub mod SpanPlaces
pub mod Named
pub mod CountRatio
pub mod ValidParts
pub mod GroupSizes
