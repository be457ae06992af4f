-- The check at work, computed: the worked tables a, b and g, a table for each refusal, and tables at which two grounds
-- compete, where the earlier one must win.
use mathlib.Core.Path.{◌≡◌, refl}
use mathlib.Core.List.{List, [], ◌∷◌, ◌++◌, map}
use Prim.Native.Nat.{ℕ, zero, suc, ◌+◌, ◌-◌, ◌/◌}
use lib.ListN.{length, replicate}
use Rattle.table.specs.Constants.{most_forks}
use Rattle.table.specs.Program.{Code, end, new, lock, fork, choice, call, mirror, Program}
use Rattle.table.specs.Program.{program_items}
use Rattle.table.specs.Encoding.{two_bytes, encode_table}
use Rattle.table.specs.Check.{refused, accepted, check_table, block_by, block}
use Rattle.table.specs.Answer.{checked_of}
use Rattle.std.specs.Prelude.{Ok}

-- a table of one routine, from its body
abbrev one : List ℕ → List ℕ
one s = 1 ∷ 0 ∷ (two_bytes (length s) ++ s)

-- a program of one routine, from its body
abbrev single : Code → Program
single c = record { count = 0; code = c } ∷ []

-- the list, n times
abbrev repeated : ℕ → List ℕ → List ℕ
repeated zero l = []
repeated (suc n) l = l ++ repeated n l

abbrev bytes_a : List ℕ
bytes_a = 0x01 ∷ 0x00 ∷ 0x01 ∷ 0x00 ∷ 0x00 ∷ []

-- a fork locks 1 then 2, the main thread 2 then 1
abbrev bytes_b : List ℕ
bytes_b = 0x01 ∷ 0x00 ∷ 0x11 ∷ 0x00 ∷ 0x01 ∷ 0x01
    ∷ 0x03 ∷ 0x02 ∷ 0x01 ∷ 0x02 ∷ 0x02 ∷ 0x00 ∷ 0x00 ∷ 0x00
    ∷ 0x02 ∷ 0x02 ∷ 0x02 ∷ 0x01 ∷ 0x00 ∷ 0x00 ∷ 0x00 ∷ []

abbrev program_b : Program
program_b = single (new 1 (new 2 (fork 1 (lock 1 (lock 2 end end) end) (lock 2 (lock 1 end end) end))))

-- the philosophers
abbrev bytes_g : List ℕ
bytes_g = 0x02 ∷ 0x00 ∷ 0x02 ∷ 0x1D ∷ 0x00 ∷ 0x01 ∷ 0x06 ∷ 0x01 ∷ 0x01 ∷ 0x01 ∷ 0x00
    ∷ 0x04 ∷ 0x02 ∷ 0x02 ∷ 0x02 ∷ 0x01 ∷ 0x00 ∷ 0x00 ∷ 0x05
    ∷ 0x01 ∷ 0x03 ∷ 0x02 ∷ 0x01 ∷ 0x02 ∷ 0x03 ∷ 0x00 ∷ 0x00 ∷ 0x00 ∷ 0x06 ∷ 0x01 ∷ 0x03 ∷ 0x02 ∷ 0x00 ∷ 0x00 ∷ []

abbrev program_g : Program
program_g = record { count = 0; code = new 1 (call 1 (1 ∷ 1 ∷ []) end) }
    ∷ record {
      count = 2;
      code = choice
          (lock 2 (lock 1 end end) end)
          (new 3 (fork 1 (lock 1 (lock 3 end end) end) (call 1 (3 ∷ 2 ∷ []) end)))
          end;
    } ∷ []

reads_a : check_table bytes_a ≡ accepted (single end)
unfolding block block_by
reads_a = refl

reads_b : check_table bytes_b ≡ accepted program_b
unfolding block block_by
reads_b = refl

reads_g : check_table bytes_g ≡ accepted program_g
unfolding block block_by
reads_g = refl

writes_g : encode_table program_g ≡ bytes_g
writes_g = refl

items_g : program_items program_g ≡ 19
items_g = refl

-- n locks of name 1, nested
abbrev nest : ℕ → Code
nest zero = end
nest (suc n) = lock 1 (nest n) end

sixteen_open : check_table (one (1 ∷ (repeated 16 (2 ∷ 1 ∷ []) ++ replicate 17 0))) ≡ accepted
    (single (new 1 (nest 16)))
unfolding block block_by
sixteen_open = refl

-- a local has left the scope with its block, and the next NEW has the next name
scope_ends : check_table (one (1 ∷ 2 ∷ 1 ∷ 1 ∷ 2 ∷ 2 ∷ 0 ∷ 0 ∷ 1 ∷ 2 ∷ 3 ∷ 0 ∷ 2 ∷ 1 ∷ 0 ∷ 0 ∷ []))
    ≡ accepted (single (new 1 (lock 1 (new 2 (lock 2 end end)) (new 3 (lock 3 end (lock 1 end end))))))
unfolding block block_by
scope_ends = refl

-- what `check` answers to table g
answers_g : checked_of (check_table bytes_g) ≡ Ok (record { routines = 2; items = 19 })
unfolding block block_by
answers_g = refl

-- a body of n bytes, n being even: a NEW, CALLs of routine 0 and an END
abbrev calling : ℕ → List ℕ
calling n = 1 ∷ (repeated (n / 2 - 1) (6 ∷ 0 ∷ []) ++ (0 ∷ []))

-- 4,096 body bytes are accepted, and 4,097 are not
full : checked_of (check_table (one (calling 4096))) ≡ Ok (record { routines = 1; items = 2049 })
unfolding block block_by
full = refl

above_full : check_table (one (1 ∷ calling 4096)) ≡ refused 5
unfolding block block_by
above_full = refl

-- a MIRROR takes the next name, which leaves the scope with its block; a mirror of a mirror
mirrors : check_table (one (1 ∷ 2 ∷ 1 ∷ 7 ∷ 1 ∷ 2 ∷ 2 ∷ 0 ∷ 0 ∷ 7 ∷ 1 ∷ 7 ∷ 3 ∷ 1 ∷ 2 ∷ 5 ∷ 0 ∷ 0 ∷ []))
    ≡ accepted
    (single (new 1 (lock 1 (mirror 2 1 (lock 2 end end)) (mirror 3 1 (mirror 4 3 (new 5 (lock 5 end end)))))))
unfolding block block_by
mirrors = refl

-- eight NEW and MIRROR together pass
eight_locals : check_table (one (replicate 3 1 ++ (repeated 5 (7 ∷ 1 ∷ []) ++ (0 ∷ []))))
    ≡ accepted
    (single (new 1 (new 2 (new 3 (mirror 4 1 (mirror 5 1 (mirror 6 1 (mirror 7 1 (mirror 8 1 end)))))))))
unfolding block block_by
eight_locals = refl

-- a table, and the refusal that it gets
pub record Case : Type 0 where
  pub table : List ℕ
  pub refusal : ℕ

abbrev gets : List ℕ → ℕ → Case
gets t e = record { table = t; refusal = e }

-- a table for each refusal, in order
abbrev refusals : List Case
refusals = gets [] 1
    ∷ gets (0 ∷ []) 2
    ∷ gets (65 ∷ replicate 100 0) 2
    ∷ gets (2 ∷ 0 ∷ 0 ∷ 1 ∷ []) 3
    ∷ gets (2 ∷ 0 ∷ 8 ∷ 2 ∷ 0 ∷ 0 ∷ 0 ∷ []) 4
    ∷ gets (1 ∷ 1 ∷ 1 ∷ 0 ∷ 0 ∷ []) 4
    ∷ gets (1 ∷ 0 ∷ 1 ∷ 16 ∷ []) 5
    ∷ gets (1 ∷ 0 ∷ 2 ∷ 0 ∷ 0 ∷ []) 6
    ∷ gets (1 ∷ 0 ∷ 1 ∷ 0 ∷ 0 ∷ 0 ∷ []) 6
    ∷ gets (one (1 ∷ [])) 7
    ∷ gets (one (8 ∷ 0 ∷ [])) 8
    ∷ gets (one (5 ∷ 0 ∷ [])) 9
    ∷ gets (one (4 ∷ 0 ∷ 0 ∷ 0 ∷ [])) 9
    ∷ gets (one (1 ∷ (repeated 17 (2 ∷ 1 ∷ []) ++ replicate 18 0))) 10
    ∷ gets (one (replicate 9 1 ++ (0 ∷ []))) 11
    ∷ gets (one (repeated (most_forks + 1) (3 ∷ 0 ∷ []) ++ (0 ∷ []))) 11
    ∷ gets (one (replicate 4 1 ++ (repeated 5 (7 ∷ 1 ∷ []) ++ (0 ∷ [])))) 11
    ∷ gets (one (replicate 8 1 ++ (7 ∷ 1 ∷ 0 ∷ []))) 11
    ∷ gets (one (6 ∷ 1 ∷ 0 ∷ [])) 12
    ∷ gets (one (1 ∷ 2 ∷ 2 ∷ 0 ∷ 0 ∷ [])) 13
    ∷ gets (2 ∷ 0 ∷ 2 ∷ 5 ∷ 0 ∷ 1 ∷ 6 ∷ 1 ∷ 1 ∷ 0 ∷ []) 13
    ∷ gets (one (1 ∷ 7 ∷ 2 ∷ 0 ∷ [])) 13
    ∷ gets (one (0 ∷ 0 ∷ [])) 14 ∷ []

-- Two grounds compete: 2 and 3; 3 and 4; 4 and 5; 5 and 6; 9 and 7, by byte order; a seventeenth block with a bad name;
-- a seventeenth block that is a FORK too many; a missing routine byte; a missing name; a ninth local that
-- mirrors a name out of scope, and one that mirrors none; a MIRROR without its name; a stray END in a second body.
abbrev competing : List Case
competing = gets (65 ∷ []) 2
    ∷ gets (2 ∷ 8 ∷ 9 ∷ 1 ∷ []) 3
    ∷ gets (1 ∷ 1 ∷ 255 ∷ 255 ∷ []) 4
    ∷ gets (1 ∷ 0 ∷ 255 ∷ 255 ∷ []) 5
    ∷ gets (one (5 ∷ [])) 9
    ∷ gets (one (1 ∷ (repeated 16 (2 ∷ 1 ∷ []) ++ (2 ∷ 9 ∷ [])))) 10
    ∷ gets (one (repeated most_forks (3 ∷ 0 ∷ []) ++ (replicate 16 4 ++ (3 ∷ [])))) 10
    ∷ gets (one (6 ∷ [])) 12
    ∷ gets (one (1 ∷ 2 ∷ [])) 13
    ∷ gets (one (replicate 8 1 ++ (7 ∷ 9 ∷ []))) 11
    ∷ gets (one (replicate 8 1 ++ (7 ∷ []))) 11
    ∷ gets (one (1 ∷ 7 ∷ [])) 13
    ∷ gets (2 ∷ 0 ∷ 0 ∷ 3 ∷ 0 ∷ 0 ∷ 0 ∷ 0 ∷ []) 14 ∷ []

each_refused : map (λ c. check_table c.table) (refusals ++ competing) ≡ map (λ c. refused c.refusal)
    (refusals ++ competing)
unfolding block block_by
each_refused = refl
