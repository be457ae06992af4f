-- The program that is held: where its bodies stand, and that their items are good.
use Rattle.std.specs.Prelude.{◌≡◌, refl, ◌≢◌, List, [], ◌∷◌, ◌++◌, ℕ, suc, ◌+◌, ◌≤◌, ◌<◌, length, get_or, drop}
use Rattle.std.proofs.Common.{sym, ap, ◌∙◌, inl, inr, append-nil, append_assoc, add-one, arith, lt-ltb, le-ltb, length-append}
use Rattle.std.proofs.Math.Decide.{dec_lt}
use Rattle.table.specs.Constants.{Op, END, OTHER, code}
use Rattle.table.specs.Program.{Code, end, new, lock, fork, choice, call, mirror, Program, params, body, names}
use Rattle.table.specs.Program.{locals, forks}
use Rattle.table.specs.WellFormed.{In, Scoped}
use Rattle.table.specs.Encoding.{encode, encode_bodies, counts, Numbered}
use Rattle.table.proofs.Laws.Lists.{names_in}
use Rattle.table.proofs.Laws.Sections.{routines}
use Rattle.table.proofs.Laws.Sound.{counts_length, counts_params}
use Rattle.settle.specs.Bodies.{start_of}
use Rattle.settle.specs.Laws.Starts.{body_at, start_next}
use Rattle.order.specs.Items.{Item, items_of}
use Rattle.order.specs.Standing.{AllGood, ItemsAt, HoldsAt, end_of}
use Rattle.order.specs.Laws.Items.{flat_items}

-- after the last body nothing is left
last_start : (P : Program) → start_of P (length P) ≡ length (encode_bodies P)
last_start [] = refl
last_start (q ∷ P) =
    let h = last_start P in let a = length-append (encode END q.code) (encode_bodies P) in omega arith

-- a code that closes a block is no other item's
abbrev Closes : Op → Type 0
Closes z = (code z ≢ 1) × (code z ≢ 2) × (code z ≢ 6) × (code z ≢ 7)

closes_end : Closes END
closes_end = ((λ e. omega arith), (λ e. omega arith), (λ e. omega arith), (λ e. omega arith))

closes_other : Closes OTHER
closes_other = ((λ e. omega arith), (λ e. omega arith), (λ e. omega arith), (λ e. omega arith))

module _ (P : Program) (ks : List ℕ) (are : ks ≡ counts P) (k : ℕ) where
  -- the items of a code, and then others, are good
  good_items :
      (m j : ℕ) (z : Op) (s : List ℕ) (c : Code) (us : List Item) → Closes z → Scoped P k s c → Numbered k m j c
      → ((x : ℕ) → In x s → x < 16) → k + m + locals c < 16 → AllGood ks (k + m + locals c + 1) us
      → AllGood ks (k + m + 1) (items_of z c ++ us)
  good_items m j z s end us cl sc w low few g =
      let e : k + m + 0 + 1 ≡ k + m + 1 = omega arith in (cl, rw e at g)
  good_items m j z s (new x c) us cl sc w low few g =
      let e : k + (m + 1) + 1 ≡ k + m + 1 + 1 = omega arith in
      let f : k + m + (1 + locals c) + 1 ≡ k + (m + 1) + locals c + 1 = omega arith in (
        omega arith,
        rw e at (good_items (m + 1) j z (x ∷ s) c us cl sc.1 w.1
            (λ y i. elim i [ inl p ↦ (let q : x ≡ k + m + 1 = w.0 in omega arith) | inr h ↦ low y h ]) (omega arith)
            (rw f at g)),
      )
  good_items m j z s (mirror x y c) us cl sc w low few g =
      let e : k + (m + 1) + 1 ≡ k + m + 1 + 1 = omega arith in
      let f : k + m + (1 + locals c) + 1 ≡ k + (m + 1) + locals c + 1 = omega arith in (
        (omega arith, low y sc.1),
        rw e at (good_items (m + 1) j z (x ∷ s) c us cl sc.2 w.1
            (λ v i. elim i [ inl p ↦ (let q : x ≡ k + m + 1 = w.0 in omega arith) | inr h ↦ low v h ]) (omega arith)
            (rw f at g)),
      )
  good_items m j z s (lock x c d) us cl sc w low few g =
      let f : k + m + (locals c + locals d) + 1 ≡ k + (m + locals c) + locals d + 1 = omega arith in
      let e : k + (m + locals c) + 1 ≡ k + m + locals c + 1 = omega arith in (
        low x sc.0,
        rw (append_assoc (items_of END c) (items_of z d) us)
            (good_items m j END s c (items_of z d ++ us) closes_end sc.1 w.0 low (omega arith)
            (rw e at (good_items (m + locals c) (j + forks c) z s d us cl sc.2 w.1 low (omega arith)
            (rw f at g)))),
      )
  good_items m j z s (fork i c d) us cl sc w low few g =
      let f : k + m + (locals c + locals d) + 1 ≡ k + (m + locals c) + locals d + 1 = omega arith in
      let e : k + (m + locals c) + 1 ≡ k + m + locals c + 1 = omega arith in (
        ((λ q. omega arith), (λ q. omega arith), (λ q. omega arith), (λ q. omega arith)),
        rw (append_assoc (items_of END c) (items_of z d) us)
            (good_items m (j + 1) END s c (items_of z d ++ us) closes_end sc.0 w.1 low (omega arith)
            (rw e at (good_items (m + locals c) (j + 1 + forks c) z s d us cl sc.1 w.2 low (omega arith)
            (rw f at g)))),
      )
  good_items m j z s (choice a b c) us cl sc w low few g =
      let f : k + m + (locals a + (locals b + locals c)) + 1 ≡ k + (m + locals a + locals b) + locals c + 1 = omega
      arith in
      let e : k + (m + locals a + locals b) + 1 ≡ k + (m + locals a) + locals b + 1 = omega arith in
      let h : k + (m + locals a) + 1 ≡ k + m + locals a + 1 = omega arith in (
        ((λ q. omega arith), (λ q. omega arith), (λ q. omega arith), (λ q. omega arith)),
        rw (
          append_assoc (items_of OTHER a) (items_of END b ++ items_of z c) us,
          append_assoc (items_of END b) (items_of z c)
              us,
        )
            (good_items m j OTHER s a (items_of END b ++ (items_of z c ++ us)) closes_other sc.0 w.0 low
            (omega arith)
            (rw h at (good_items (m + locals a) (j + forks a) END s b (items_of z c ++ us) closes_end sc.1 w.1 low
            (omega arith)
            (rw e at (good_items (m + locals a + locals b) (j + forks a + forks b) z s c us cl sc.2 w.2 low
            (omega arith)
            (rw f at g)))))),
      )
  good_items m j z s (call r xs c) us cl sc w low few g =
      let n = counts_length P in
      let l = sc.0 in (
        (rw are (omega arith), rw are (sc.1 ∙ sym (counts_params P r)), (λ x i. low x (sc.2 x i))),
        good_items m j z s c us cl sc.3 w low few g,
      )

module _ (P : Program) (ks s starts : List ℕ) (h : HoldsAt P ks s starts) where
  pub few_routines : length ks ≤ 64
  few_routines = let a = routines P ks s h.holds in let b = h.holds.limits.few_routines in omega arith

  pub few_bytes : length s ≤ 4096
  few_bytes = let a = ap length h.holds.bytes_are in let b = h.holds.limits.few_bytes in omega arith

  module _ (r : ℕ) (l : r < length P) where
    -- what follows the body of routine r
    abbrev pub rest : List ℕ
    rest = encode_bodies (drop (suc r) P)

    ends_at : end_of s starts r ≡ start_of P r + length (encode END (body P r))
    ends_at = go (dec_lt (r + 1) (length starts))
      where
        n : start_of P (r + 1) ≡ start_of P r + length (encode END (body P r))
        n = ap (start_of P) (add-one r) ∙ start_next P r l

        go : Dec (r + 1 < length starts) → end_of s starts r ≡ start_of P r + length (encode END (body P r))
        go (yes a) = rw (lt-ltb (r + 1) (length starts) a)
            (h.starts_are (r + 1) (let b = h.starts_long in omega arith) ∙ n)
        go (no a) =
            let e : r + 1 ≡ length P = let b = h.starts_long in omega arith in
            rw (le-ltb (r + 1) (length starts) (omega arith))
            (ap length h.holds.bytes_are ∙ sym (last_start P) ∙ ap (start_of P) (sym e) ∙ n)

    pub params_few : params P r ≤ 7
    params_few = (h.holds.limits.fits r l).few_params

    -- the items of the body stand at its start
    pub items_here : ItemsAt ks s (get_or starts r 0) (end_of s starts r) (params P r + 1) (items_of END (body P r)) rest
    items_here =
        let f = h.holds.limits.fits r l in
        let k = params P r in
        let z : k + 0 + 1 ≡ k + 1 = omega arith in
        let e = h.starts_are r l in
        record {
          content = rw e (ap (drop (start_of P r)) h.holds.bytes_are ∙ body_at P r l
              ∙ ap (λ (u : List ℕ). u ++ rest) (sym (flat_items END (body P r))));
          good = rw z at (rw (append-nil (items_of END (body P r)))
              at (good_items P ks h.holds.params_are k 0 0 END (names k) (body P r) [] closes_end f.scoped
              f.numbered
              (λ x i. let n = names_in k x i in let a = n.1 in let b = n.2 in let p = f.few_params in omega arith)
              (let p = f.few_params in let q = f.few_locals in omega arith) tt));
          ends = rw (e, ends_at, flat_items END (body P r)) refl;
        }
