-- A whole line, and the lines of a text, as the code reads them. Assumes nothing.
use Rattle.std.specs.Prelude.{◌≡◌, List, [], ◌∷◌, Bool, true, false, cond, ℕ, suc, ◌+◌, ◌-◌, ◌≤◌, ◌<◌, eqb, length, get_or, take, drop}
use Rattle.std.proofs.Math.Path.{refl, sym}
use Rattle.std.proofs.Common.{ap, ◌∙◌, arith, eq-eqb, ne_eqb, lt-ltb, le-ltb}
use Rattle.std.proofs.Math.Decide.{dec_lt}
use Rattle.listing.specs.Printed.{Bytes}
use Rattle.outline_spec.specs.Understood.{begun, lines}
use Rattle.compose.specs.Steps.{line_long, past_line}
use Rattle.compose_fields.proofs.Laws.Parts.{from_place, past_end}

-- ---- lines
long-cons : (b : ℕ) (t : Bytes) → line_long (b ∷ t) ≡ cond (eqb b 10) 0 (suc (line_long t))
unfolding line_long
long-cons b t = refl

module _ (text : Bytes) (at i : ℕ) (e : at + line_long (drop at text) ≡ i + line_long (drop i text)) where
  pub end-here : i < length text → get_or text i 0 ≡ 10 → i ≡ at + line_long (drop at text)
  end-here h q = sym (e ∙ (let n : line_long (drop i text) ≡ 0 = rw (from_place text i h, long-cons, eq-eqb (get_or text i 0) 10 q) refl in omega (arith, n)))

  pub end_later : i < length text → ¬ (get_or text i 0 ≡ 10) → at + line_long (drop at text) ≡ i + 1 + line_long (drop (i + 1) text)
  end_later h q = e ∙ (let n : line_long (drop i text) ≡ suc (line_long (drop (i + 1) text)) = rw (from_place text i h, long-cons, ne_eqb (get_or text i 0) 10 q) refl in omega (arith, n))

  pub end_last : length text ≤ i → i ≡ at + line_long (drop at text)
  unfolding line_long
  end_last h = sym (e ∙ (let n : line_long (drop i text) ≡ 0 = rw (past_end text i h) refl in omega (arith, n)))

-- the line as a slice
pub line-here : (text : Bytes) (at end : ℕ) → end ≡ at + line_long (drop at text) → take (end - at) (drop at text) ≡ take (line_long (drop at text)) (drop at text)
line-here text at end e = let q : end - at ≡ line_long (drop at text) = omega arith in ap (λ n. take n (drop at text)) q

-- the first line of a text that is not empty, and the others
pub lines_cons : (b : ℕ) (t : Bytes) → lines (b ∷ t) ≡ take (line_long (b ∷ t)) (b ∷ t) ∷ lines (drop (line_long (b ∷ t)) t)
unfolding lines line_long begun
lines_cons b [] = go (eqb b 10)
  where
    go : (y : Bool) → ◌≡◌ {A = List Bytes} (cond y ([] ∷ []) ((b ∷ []) ∷ [])) (take (cond y 0 1) (b ∷ []) ∷ lines (drop (cond y 0 1) []))
    go true = refl
    go false = refl
lines_cons b (d ∷ t) = go (eqb b 10) (line_long (d ∷ t)) (lines_cons d t)
  where
    go : (y : Bool) (m : ℕ) → lines (d ∷ t) ≡ take m (d ∷ t) ∷ lines (drop m t)
        → cond y ([] ∷ lines (d ∷ t)) (begun b (lines (d ∷ t))) ≡ take (cond y 0 (suc m)) (b ∷ d ∷ t) ∷ lines (drop (cond y 0 (suc m)) (d ∷ t))
    go true m e = refl
    go false m e = ap (begun b) e

-- ---- the place after a line
pub past_feed : (n e : ℕ) → e < n → past_line n e ≡ e + 1
unfolding past_line
past_feed n e h = rw (lt-ltb e n h) refl

pub past_last : (n e : ℕ) → n ≤ e → past_line n e ≡ n
unfolding past_line
past_last n e h = rw (le-ltb e n h) refl

pub past_drop : (text : Bytes) (e : ℕ) → drop (past_line (length text) e) text ≡ drop (e + 1) text
past_drop text e = elim (dec_lt e (length text)) [
  | yes h ↦ ap (λ i. drop i text) (past_feed (length text) e h)
  | no h ↦ ap (λ i. drop i text) (past_last (length text) e (omega arith)) ∙ past_end text (length text) (omega arith) ∙ sym (past_end text (e + 1) (omega arith))
]

pub past_on : (n e at : ℕ) → at ≤ e → at < n → at < past_line n e
past_on n e at h k = elim (dec_lt e n) [ yes l ↦ rw (past_feed n e l) (omega arith) | no l ↦ rw (past_last n e (omega arith)) k ]
