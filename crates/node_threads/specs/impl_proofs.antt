pub mod PlumOpening
