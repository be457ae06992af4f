mod ReachLaws
mod DueLaws
mod SettleLaws
mod LoopLaws
mod WorkLaws
