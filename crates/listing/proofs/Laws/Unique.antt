-- The contract of the listing leaves nothing free: what `list` leaves of one table and the same two buffers is equal.
use Rattle.std.specs.Prelude.{◌≡◌, List, ℕ, length, get_or}
use Rattle.std.proofs.Common.{sym, ap, ◌∙◌}
use Rattle.analysis.proofs.Laws.Unique.{analysed_unique}
use Rattle.listing.specs.Text.{listing, over, Listed}

pub listed_unique :
    (table model model₁ model₂ out out₁ out₂ : List ℕ) (n m : ℕ)
    → Listed table model model₁ out out₁ n → Listed table model model₂ out out₂ m
    → (model₁ ≡ model₂) × (out₁ ≡ out₂) × (n ≡ m)
listed_unique table model model₁ model₂ out out₁ out₂ n m p q =
    let text = p.text ∙ ap (λ (t : List ℕ). over t out) texts ∙ sym q.text in
    (same.0, text, p.whole ∙ ap length texts ∙ sym q.whole)
  where
    same : (model₁ ≡ model₂) × (p.answer ≡ q.answer)
    same = analysed_unique table model model₁ model₂ p.answer q.answer p.analysed q.analysed

    texts : listing (get_or table 0 0) model₁ p.answer ≡ listing (get_or table 0 0) model₂ q.answer
    texts = ap (λ (l : List ℕ). listing (get_or table 0 0) l p.answer) same.0
        ∙ ap (listing (get_or table 0 0) model₂) same.1
