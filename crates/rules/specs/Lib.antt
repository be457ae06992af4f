-- The definitions of labels, pairs, rows, verdicts and shares, and the laws that follow from them.
pub mod Label
pub mod Number
pub mod Model
pub mod Derived
pub mod Verdict
pub mod Share
