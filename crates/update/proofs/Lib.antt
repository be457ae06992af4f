pub mod Laws
mod ZeroLaws
mod FitLaws
mod AnewLaws
mod SameLaws
mod ElsewhereLaws
mod BringLaws
