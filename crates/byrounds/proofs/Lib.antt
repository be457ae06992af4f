mod RoundLaws
mod TurnLaws
mod PassLaws
mod GoingLaws
