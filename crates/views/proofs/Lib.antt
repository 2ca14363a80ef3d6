pub mod CallerLemmas
mod Integration
mod Lists
mod Sound
