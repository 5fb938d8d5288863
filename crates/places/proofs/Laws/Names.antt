-- Laws of the definitions in specs/Names.antt. Nothing that a reader must believe stands here. Assumes nothing.
use Rattle.std.specs.Prelude.{◌≡◌, refl, Bool, true, false, not, ◌≢◌, ◌++◌, ℕ, ◌+◌, ◌-◌, ◌≤◌, ◌<◌, T, length, drop, get_or, replicate}
use Rattle.std.proofs.Common.{sym, ap, subst, ◌∙◌, arith, get_or-append-add}
use Rattle.std.proofs.Math.Decide.{ℕ_discrete}
use Rattle.std.proofs.lemmas.List.{length-replicate, get_or-replicate}
use Rattle.std.proofs.lemmas.List.Edits.{sets-eq}
use Rattle.whole.specs.Says.{Says}
use Rattle.listing.specs.Printed.{Bytes}
use Rattle.listing.specs.Put.{Put}
use Rattle.listing.proofs.Laws.Put.{drop-zeros}
use Rattle.places.specs.Names.{path_size, Nameable, c_name, Ended}

-- a text at the beginning of n zeros
padded : (n : ℕ) {s b : Bytes} {k : ℕ} → Put (replicate n 0) 0 s b k → length s ≤ n → b ≡ s ++ replicate (n - length s) 0
padded n {s} p h =
    let z : 0 + length s ≡ length s = omega arith in
    let l : length s ≤ length (replicate {A = ℕ} n 0) = rw (length-replicate {A = ℕ} n 0) h in
    p.bytes ∙ sets-eq s _ 0 (rw z l) ∙ ap (λ r. s ++ r) (ap (λ k. drop k (replicate {A = ℕ} n 0)) z ∙ drop-zeros (length s) n)

-- its last byte is 0 where there is room for one
last_zero : (n m : ℕ) (s : Bytes) → n ≡ m + 1 → length s ≤ m → get_or (s ++ replicate (n - length s) 0) m 1 ≡ 0
last_zero n m s e h =
    let f : length s + (m - length s) ≡ m = omega arith in
    ap (λ k. get_or (s ++ replicate {A = ℕ} (n - length s) 0) k 1) (sym f) ∙ get_or-append-add s (replicate (n - length s) 0) (m - length s) 1 ∙ get_or-replicate (n - length s) (m - length s) 0 1 (omega arith)

pub c_name-put : {s b : Bytes} {k : ℕ} → Put (replicate path_size 0) 0 s b k → length s < path_size → (b ≡ c_name s) × Ended b
unfolding c_name
c_name-put {s} p h =
    let e = padded path_size p (omega arith) in
    (e, rw e (last_zero path_size 4095 s refl (omega arith)))

-- whether a name can be handed to C
pub no_name : {name : Bytes} → ¬ (Nameable name) → Says false (Nameable name)
no_name h = record { read = λ b. absurd b; show = λ p. absurd (h p) }

pub a_name : {name : Bytes} → Nameable name → Says true (Nameable name)
a_name p = record { read = λ b. p; show = λ p. tt }

-- a name that passed is short
pub told_short : {b : Bool} {name : Bytes} → Says b (Nameable name) → not b ≡ false → length name < path_size
told_short {b = true} s e = (s.read tt).short
told_short {b = false} s e = absurd (subst T e tt)

-- one byte more is not 0
pub one_more : (name : Bytes) (i : ℕ) → ((j : ℕ) → j < i → get_or name j 0 ≢ 0) → get_or name i 0 ≢ 0 → (j : ℕ) → j < i + 1 → get_or name j 0 ≢ 0
one_more name i f h j l = go (ℕ_discrete j i)
  where
    go : Dec (j ≡ i) → get_or name j 0 ≢ 0
    go (yes e) = rw e h
    go (no e) = f j (omega arith)
