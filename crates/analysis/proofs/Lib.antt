pub mod Laws
mod JudgingLaws
mod ModelLaws
mod VerdictLaws
mod AnalyseLaws
mod NumberLaws
