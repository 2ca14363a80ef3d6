pub mod Outbox
