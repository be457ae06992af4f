-- The rule of a table of numbers, from one test that is computed at all of its entries.
use Rattle.std.specs.Prelude.{◌≡◌, Bool, List, [], ℕ, ◌<◌, T, eqb, get_or}
use Rattle.std.proofs.Common.{eqb→eq}
use Rattle.rules.proofs.Laws.Lists.{up_to, in_up_to, every?, every_at}

-- the test passes at each number below n
abbrev pub every_below : ℕ → (ℕ → Bool) → Bool
every_below n f = every? f (up_to n)

pub at_below : (n : ℕ) (f : ℕ → Bool) → T (every_below n f) → (k : ℕ) → k < n → T (f k)
at_below n f t k h = every_at f (up_to n) k t (in_up_to k n h)

-- the same for a test of two numbers
pub at_both :
    (n m : ℕ) (f : ℕ → ℕ → Bool) → T (every_below n (λ a. every_below m (f a)))
    → (a b : ℕ) → a < n → b < m → T (f a b)
at_both n m f t a b h k = at_below m (f a) (at_below n (λ x. every_below m (f x)) t a h) b k

-- the rule g of a table of n rows of m numbers holds at each entry
pub table_rule :
    (n m : ℕ) (rows : List (List ℕ)) (g : ℕ → ℕ → ℕ) (a b : ℕ) → a < n → b < m
    → T (every_below n (λ x. every_below m (λ y. eqb (get_or (get_or rows x []) y 0) (g x y))))
    → get_or (get_or rows a []) b 0 ≡ g a b
table_rule n m rows g a b h k t =
    eqb→eq (get_or (get_or rows a []) b 0) (g a b)
    (at_both n m (λ x y. eqb (get_or (get_or rows x []) y 0) (g x y)) t a b h k)
