pub mod NumberLemmas
pub mod SpanLemmas
pub mod PastLemmas
pub mod IdOrder
pub mod KnownLemmas
pub mod CountLemmas
pub mod FrontLemmas
