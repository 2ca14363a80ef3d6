mod Delivering
mod Leading
mod Telling
