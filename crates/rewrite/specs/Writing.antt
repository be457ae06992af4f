-- What the functions that rewrite a body need and leave.
use Rattle.std.specs.Prelude.{◌≡◌, Option, None, List, [], ◌∷◌, ◌++◌, map, ℕ, ◌+◌, ◌≤◌, ◌<◌, length, get_or, set}
use Rattle.std.specs.Option.{unwrap_or}
use Rattle.table.specs.Constants.{most_names, most_params, most_bytes, NEW, LOCK, CALL, code}
use Rattle.append.specs.Puts.{Puts}
use Rattle.append.specs.declared.text.Text.{Text}
use Rattle.order.specs.Items.{Item, mark, making, mirroring, locking, calling, item_bytes}
use Rattle.order.specs.Standing.{ItemsAt}
use Rattle.rewrite.specs.declared.Spot.{Spot}

-- what the writer knows at a place: the new name of each name so far, the next name and the next new name
pub record Known : Type 0 where
  pub names : List ℕ
  pub old : ℕ
  pub next : ℕ

-- the new name of x
abbrev pub name_of : Known → ℕ → ℕ
name_of e x = get_or e.names x 0

-- what it knows after an item
abbrev pub after_item : Known → Item → Known
after_item e (mark b) = e
after_item e making =
    record { names = set e.names e.old e.next; old = e.old + 1; next = e.next + 1 }
after_item e (mirroring y) =
    record { names = set e.names e.old (name_of e y); old = e.old + 1; next = e.next }
after_item e (locking x) = e
after_item e (calling r xs) = e

-- the new number of routine r, or 0 where it has none
abbrev pub new_number : List (Option ℕ) → ℕ → ℕ
new_number ps r = unwrap_or (get_or ps r None) 0

-- what it writes for an item, where ps has the new numbers of the routines
abbrev pub written : List (Option ℕ) → Known → Item → List ℕ
written ps e (mark b) = b ∷ []
written ps e making = code NEW ∷ []
written ps e (mirroring y) = []
written ps e (locking x) = code LOCK ∷ name_of e x ∷ []
written ps e (calling r xs) = code CALL ∷ new_number ps r ∷ map (name_of e) xs

-- the same of items, one after the other
abbrev pub after_all : Known → List Item → Known
after_all e [] = e
after_all e (t ∷ ts) = after_all (after_item e t) ts

abbrev pub written_all : List (Option ℕ) → Known → List Item → List ℕ
written_all ps e [] = []
written_all ps e (t ∷ ts) = written ps e t ++ written_all ps (after_item e t) ts

-- what the writer knows at a place
abbrev pub known_of : Spot → Known
known_of w = record { names = w.names; old = w.local; next = w.next }

-- the names xs have new names, and there is room for them
pub record NamesFit (xs names : List ℕ) (p : ℕ) : Type 0 where
  pub few : p + length xs < 700000
  pub long : length names ≡ most_names
  pub low : (i : ℕ) → i < length xs → get_or xs i 0 < most_names

-- the new names of the names xs
abbrev pub new_names : List ℕ → List ℕ → List ℕ
new_names names xs = map (λ x. get_or names x 0) xs

-- what there must be room for, where the text so far ends at p
pub record Fits (w : Spot) (p : ℕ) : Type 0 where
  pub low : w.at < most_bytes
  pub names_long : length w.names ≡ most_names
  pub next : w.next ≤ w.local
  pub local : w.local ≤ most_names
  pub place : p < 500000

-- the item was passed, and written at the end of the text a
pub record Passed (ps : List (Option ℕ)) (t : Item) (w v : Spot) (a b : Text) : Type 0 where
  pub at : v.at ≡ w.at + length (item_bytes t)
  pub known : known_of v ≡ after_item (known_of w) t
  pub text : Puts (written ps (known_of w) t) a b

-- the same, of an item that calls nothing
abbrev pub PassedAs : Item → Spot → Spot → Text → Text → Type 0
PassedAs t w v a b = (ps : List (Option ℕ)) → Passed ps t w v a b

-- the same, of the MIRROR at the place, which writes nothing
abbrev pub MirrorPassed : List ℕ → Spot → Spot → Type 0
MirrorPassed s w v = (a : Text) → PassedAs (mirroring (get_or s (w.at + 1) 0)) w v a a

-- a body of a routine with `own` parameters stands there, and there is room for it
pub record BodyReady (ks s : List ℕ) (ps : List (Option ℕ)) (at end own p : ℕ) : Type 0 where
  pub items : List Item
  pub rest : List ℕ
  pub items_at : ItemsAt ks s at end (own + 1) items rest
  pub own_few : own ≤ most_params
  pub few : p + most_bytes < 500000
  pub places : length ks ≤ length ps
  pub section : length s ≤ most_bytes

-- every name up to the limit for itself
abbrev pub itself16 : List ℕ
itself16 = 0 ∷ 1 ∷ 2 ∷ 3 ∷ 4 ∷ 5 ∷ 6 ∷ 7 ∷ 8 ∷ 9 ∷ 10 ∷ 11 ∷ 12 ∷ 13 ∷ 14 ∷ 15 ∷ []

-- what the writer knows at the head of a body
abbrev pub at_start : ℕ → Known
at_start own = record { names = itself16; old = own + 1; next = own + 1 }

-- the body was written at the end of the text a
abbrev pub BodyWritten : List ℕ → List ℕ → List (Option ℕ) → ℕ → ℕ → ℕ → Text → Text → Type 0
BodyWritten ks s ps at end own a b =
    (ts : List Item) (l : List ℕ) → ItemsAt ks s at end (own + 1) ts l
    → Puts (written_all ps (at_start own) ts) a b
