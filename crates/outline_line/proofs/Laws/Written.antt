-- The parts as the code writes them. Assumes nothing.
use Rattle.std.specs.Prelude.{◌≡◌, refl, List, [], ◌∷◌, ◌++◌, cond, ℕ, zero, suc, ◌+◌, ◌*◌, ◌≤◌, ◌<◌, ltb, length, get_or, drop}
use Rattle.std.proofs.Common.{ap, ◌∙◌, append_assoc, arith, add-one, drop_of_length-le, drop-cons, eq-eqb, ne_eqb, lt-ltb, le-ltb}
use Rattle.std.proofs.Math.Seq.{length-sets}
use Rattle.plan.specs.Limits.{no_parent}
use Rattle.plan.specs.Kinds.{about}
use Rattle.plan.specs.declared.kinds.Kind.{Kind}
use Rattle.std.specs.Prelude.{Option}
use Rattle.std.specs.Prelude.{Some, None}
use Rattle.plan.specs.Records.{bare}
use Rattle.plan.specs.declared.Record.{Record}
use Rattle.listing.specs.Printed.{Bytes, decimal}
use Rattle.listing.specs.Put.{Put}
use Rattle.listing.proofs.Laws.Put.{then, put-none}
use Rattle.outline_spec.specs.Outline.{word, quote, label_word, width_word, depth_word, rank_word, under_word, last_less, nearest, level_under, border, natural, unless, indent, field, label, fields, cell_line}

-- a text that is written leaves the output as long as it was
pub put-length : {a b s : List ℕ} {at next : ℕ} → Put a at s b next → length b ≡ length a
put-length {a} {b} {s} {at} p = ap length p.bytes ∙ length-sets a at s

-- ---- indentation
indent-more : (i : ℕ) → indent i ++ (32 ∷ 32 ∷ []) ≡ indent (suc i)
unfolding indent
indent-more zero = refl
indent-more (suc i) = ap (λ r. 32 ∷ 32 ∷ r) (indent-more i)

pub indent-none : (a : List ℕ) (at : ℕ) → Put a at (indent 0) a at
unfolding indent
indent-none a at = put-none a at

pub indent-put : {a b d : List ℕ} {at next end : ℕ} (i : ℕ) → Put a at (indent i) b next → Put b next (32 ∷ 32 ∷ []) d end → Put a at (indent (i + 1)) d end
indent-put i p q = rw (add-one, ← indent-more i) (then p q)

indent-length : (l : ℕ) → length (indent l) ≡ 2 * l
unfolding indent
indent-length zero = refl
indent-length (suc l) = omega (arith, indent-length l)

pub indent-place : {a b : List ℕ} {at next : ℕ} (l : ℕ) → Put a at (indent l) b next → next ≡ at + 2 * l
indent-place l p = omega (arith, p.place, indent-length l)

-- ---- a field
pub field-none : (a : List ℕ) (at : ℕ) (w : Bytes) (u v : ℕ) → v ≡ u → Put a at (field w (unless u v)) a at
unfolding field unless
field-none a at w u v e = rw (eq-eqb v u e) (put-none a at)

pub field_put : {a b c : List ℕ} {at next end : ℕ} (w : Bytes) (u v : ℕ) → ¬ (v ≡ u) → Put a at w b next → Put b next (decimal v) c end → Put a at (field w (unless u v)) c end
unfolding field unless
field_put w u v n p q = rw (ne_eqb v u n) (then p q)

-- ---- a label
pub label-none : (a : List ℕ) (at : ℕ) (t : Bytes) → length t ≡ 0 → Put a at (label t) a at
unfolding label
label-none a at [] e = put-none a at
label-none a at (b ∷ t) e = absurd (omega arith)

label_is : (t : Bytes) → ¬ (length t ≡ 0) → label t ≡ label_word ++ (t ++ (quote ∷ []))
unfolding label
label_is [] n = absurd (n refl)
label_is (b ∷ t) n = refl

pub label-put : {a b c d : List ℕ} {at start close end : ℕ} (t : Bytes) → ¬ (length t ≡ 0) → Put a at label_word b start → Put b start t c close → Put c close (quote ∷ []) d end → Put a at (label t) d end
label-put t n p q r = rw (label_is t n) (then p (then q r))

-- ---- levels
pub under-lower : (seen : List ℕ) (p : ℕ) → p < length seen → get_or seen p 0 + 1 ≡ level_under seen p
unfolding level_under
under-lower seen p l = rw (add-one, lt-ltb p (length seen) l) refl

pub under_none : (seen : List ℕ) (p : ℕ) → length seen ≤ p → 0 ≡ level_under seen p
unfolding level_under
under_none seen p l = rw (le-ltb p (length seen) l) refl

-- what the loop has still to look at, from i on
pub less_start : (seen : List ℕ) (l : ℕ) → nearest l seen ≡ last_less l 0 no_parent (drop 0 seen)
unfolding nearest
less_start seen l = refl

less_more : (seen : List ℕ) (l i best : ℕ) → i < length seen → last_less l i best (drop i seen) ≡ last_less l (i + 1) (cond (ltb (get_or seen i 0) l) i best) (drop (i + 1) seen)
unfolding last_less
less_more seen l i best n = rw (add-one, drop-cons seen i 0 n, last_less) refl

pub less_here : (seen : List ℕ) (l i best : ℕ) → i < length seen → get_or seen i 0 < l → last_less l i best (drop i seen) ≡ last_less l (i + 1) i (drop (i + 1) seen)
less_here seen l i best n h = less_more seen l i best n ∙ ap (λ b. last_less l (i + 1) (cond b i best) (drop (i + 1) seen)) (lt-ltb (get_or seen i 0) l h)

pub less_not : (seen : List ℕ) (l i best : ℕ) → i < length seen → l ≤ get_or seen i 0 → last_less l i best (drop i seen) ≡ last_less l (i + 1) best (drop (i + 1) seen)
less_not seen l i best n h = less_more seen l i best n ∙ ap (λ b. last_less l (i + 1) (cond b i best) (drop (i + 1) seen)) (le-ltb (get_or seen i 0) l h)

pub less_end : (seen : List ℕ) (l i best : ℕ) → length seen ≤ i → last_less l i best (drop i seen) ≡ best
unfolding last_less
less_end seen l i best h = rw (drop_of_length-le seen {i = i} h) refl

-- ---- the width that a label needs
pub border-known : (k : ℕ) (x : Option Kind) (r : Kind) → x ≡ about k → x ≡ Some r → border k ≡ r.border
unfolding border
border-known k x r e f = let g : about k ≡ Some r = cc in rw (g, border) refl

pub border_unknown : (k : ℕ) (x : Option Kind) → x ≡ about k → x ≡ None → border k ≡ 0
unfolding border
border_unknown k x e f = let g : about k ≡ None = cc in rw (g, border) refl

-- ---- the kinds' words
pub word_none : (k : ℕ) → ¬ (k ≡ 1) → ¬ (k ≡ 2) → ¬ (k ≡ 3) → ¬ (k ≡ 4) → ¬ (k ≡ 5) → word k ≡ []
unfolding word
word_none zero a b c d e = refl
word_none (suc zero) a b c d e = absurd (a refl)
word_none (suc (suc zero)) a b c d e = absurd (b refl)
word_none (suc (suc (suc zero))) a b c d e = absurd (c refl)
word_none (suc (suc (suc (suc zero)))) a b c d e = absurd (d refl)
word_none (suc (suc (suc (suc (suc zero))))) a b c d e = absurd (e refl)
word_none (suc (suc (suc (suc (suc (suc k)))))) a b c d e = refl

pub word-put : {a b : List ℕ} {at next : ℕ} (k : ℕ) (w : Bytes) → word k ≡ w → Put a at w b next → Put a at (word k) b next
word-put k w e p = rw e p

pub word-empty : (a : List ℕ) (at k : ℕ) → word k ≡ [] → Put a at (word k) a at
word-empty a at k e = rw e (put-none a at)

pub word_1 : (k : ℕ) → k ≡ 1 → word k ≡ 115 ∷ 116 ∷ 101 ∷ 112 ∷ []
unfolding word
word_1 k e = rw e refl

pub word_2 : (k : ℕ) → k ≡ 2 → word k ≡ 114 ∷ 117 ∷ 110 ∷ []
unfolding word
word_2 k e = rw e refl

pub word_3 : (k : ℕ) → k ≡ 3 → word k ≡ 114 ∷ 101 ∷ 112 ∷ 101 ∷ 97 ∷ 116 ∷ []
unfolding word
word_3 k e = rw e refl

pub word_4 : (k : ℕ) → k ≡ 4 → word k ≡ 99 ∷ 104 ∷ 111 ∷ 105 ∷ 99 ∷ 101 ∷ []
unfolding word
word_4 k e = rw e refl

pub word_5 : (k : ℕ) → k ≡ 5 → word k ≡ 119 ∷ 97 ∷ 105 ∷ 116 ∷ []
unfolding word
word_5 k e = rw e refl

-- ---- a line, part after part
pub line-put : (seen : List ℕ) (l usual above : ℕ) (r : Record) (t : Bytes) {o₀ o₁ o₂ o₃ o₄ o₅ o₆ o₇ o₈ : List ℕ} {a₀ a₁ a₂ a₃ a₄ a₅ a₆ a₇ a₈ : ℕ}
    → l ≡ level_under seen r.parent → usual ≡ length t + border r.kind → above ≡ nearest l seen
    → Put o₀ a₀ (indent l) o₁ a₁ → Put o₁ a₁ (word r.kind) o₂ a₂ → Put o₂ a₂ (field width_word (unless usual r.width)) o₃ a₃ → Put o₃ a₃ (field depth_word (unless 1 r.depth)) o₄ a₄
    → Put o₄ a₄ (field rank_word (unless 0 r.rank)) o₅ a₅ → Put o₅ a₅ (field under_word (unless above r.parent)) o₆ a₆ → Put o₆ a₆ (label t) o₇ a₇ → Put o₇ a₇ (10 ∷ []) o₈ a₈
    → Put o₀ a₀ (cell_line seen (record { cell = bare r; text = t }) ++ (10 ∷ [])) o₈ a₈
unfolding cell_line fields natural bare
line-put seen l usual above r t e u n p₁ p₂ p₃ p₄ p₅ p₆ p₇ p₈ =
    rw (← e, ← u, ← n)
    (simp append_assoc (then p₁ (then p₂ (then p₃ (then p₄ (then p₅ (then p₆ (then p₇ p₈))))))))
