-- Fields, labels and kinds, as the code reads them. Assumes nothing.
use Rattle.std.proofs.Math.Path.{◌≡◌, refl, ap}
use Rattle.std.proofs.Common.{sym, ◌∙◌, length-drop, drop-drop, get_or-drop, eq-eqb, ne_eqb}
use Rattle.std.specs.Prelude.{List, [], ◌∷◌, Bool, ◌&&◌, cond, ℕ, zero, suc, ◌+◌, ◌-◌, ◌≤◌, ◌<◌, eqb, get_or, take, drop}
use Rattle.std.proofs.Math.Bool.{true, false}
use Rattle.std.proofs.Math.Option.{Option, none, some}
use native.Mathlib.Omega.{arith}
use Rattle.std.proofs.Math.ListN.{length}
use Rattle.listing.specs.Printed.{Bytes}
use Rattle.outline_spec.specs.Outline.{word, label_word, quote}
use Rattle.outline_spec.specs.Understood.{Line, wrong, after, number, closed, parted, kinds, numbered, optional, labelled, named, fields_read}
use Rattle.outline_spec.specs.declared.Fault.TheVariants.{UnknownWord, UnknownField, LargeNumber, OpenLabel}
use Rattle.std.specs.Prelude.{Option as Maybe, Some, None, IfSome, Result, Ok, Err}
use Rattle.compose_fields.specs.Steps.{begins, number_in, Numbers, given_of, went, Options, text_in, label_in, Labels, word_at, name_in, Names}
use Rattle.compose_fields.proofs.Laws.Parts.{after-begins, from_place, past_end}
use Rattle.compose_fields.specs.declared.Digits.{Digits}
use Rattle.compose_fields.specs.declared.DigitsError.{DigitsError}
use Rattle.compose_fields.specs.declared.DigitsError.TheVariants as digits
use Rattle.compose_fields.specs.declared.Named.{Named}

-- ---- a word that is there, or not
after_yes : (w t : Bytes) → begins w t ≡ true → after w t ≡ some (drop (length w) t)
after_yes w t e = after-begins w t ∙ rw e refl

after_not : (w t : Bytes) → begins w t ≡ false → after w t ≡ none
after_not w t e = after-begins w t ∙ rw e refl

past_word : (w line : Bytes) (at : ℕ) → drop (length w) (drop at line) ≡ drop (at + length w) line
past_word w line at = drop-drop (length w) at line

begins-long : (w t : Bytes) → begins w t ≡ true → length w ≤ length t
unfolding begins
begins-long [] t e = omega arith
begins-long (x ∷ w) [] e = absurd (off e)
  where
    off : false ≡ true → ⊥
    off q = let z : ◌≡◌ {A = ℕ} 0 1 = cc in omega arith
begins-long (x ∷ w) (b ∷ t) e = go (eqb x b) e (begins-long w t)
  where
    go : (y : Bool) → elim y as (λ z. Bool) [ true ↦ begins w t | false ↦ false ] ≡ true → (begins w t ≡ true → length w ≤ length t) → suc (length w) ≤ suc (length t)
    go true q h = let k = h q in omega arith
    go false q h = let z : ◌≡◌ {A = ℕ} 0 1 = cc in absurd (omega arith)

pub word_end : (w line : Bytes) (at : ℕ) → begins w (drop at line) ≡ true → at ≤ length line → at + length w ≤ length line
word_end w line at e h = omega (arith, begins-long w (drop at line) e, length-drop at line)

-- ---- a field
module _ (w : Bytes) (m : ℕ) (line : Bytes) (at : ℕ) where
  optional_not : (rest : Option ℕ → Bytes → Line) → begins w (drop at line) ≡ false → optional w m rest (drop at line) ≡ rest none (drop at line)
  unfolding optional
  optional_not rest e = rw (after_not w (drop at line) e, optional) refl

  optional_yes : (rest : Option ℕ → Bytes → Line) → begins w (drop at line) ≡ true → optional w m rest (drop at line) ≡ numbered (number m (drop (at + length w) line)) rest
  unfolding optional
  optional_yes rest e = rw (after_yes w (drop at line) e, optional, past_word w line at) refl

  pub optional-left : begins w (drop at line) ≡ false → at ≤ length line → Options w m line at (Ok (record { value = None; next = at }))
  unfolding went given_of
  optional-left e h = record { follows = λ rest. optional_not rest e; inside = h; small = tt }

  module _ (e : begins w (drop at line) ≡ true) (d : Result Digits DigitsError) (n : Numbers line m (number m (drop (at + length w) line)) d) where
    optional-is : (rest : Option ℕ → Bytes → Line) → optional w m rest (drop at line) ≡ numbered (number_in line d) rest
    optional-is rest = optional_yes rest e ∙ ap (λ x. numbered x rest) (sym n.says)

    pub optional-absent : d ≡ Err digits.Absent → Options w m line at (Err UnknownField)
    unfolding went numbered number_in
    optional-absent q = record { follows = λ rest. optional-is rest ∙ ap (λ x. numbered (number_in line x) rest) q; inside = tt; small = tt }

    pub optional-large : d ≡ Err digits.Large → Options w m line at (Err LargeNumber)
    unfolding went numbered number_in
    optional-large q = record { follows = λ rest. optional-is rest ∙ ap (λ x. numbered (number_in line x) rest) q; inside = tt; small = tt }

    pub optional-read : (v : Digits) → d ≡ Ok v → Options w m line at (Ok (record { value = Some v.value; next = v.next }))
    unfolding went given_of numbered number_in
    optional-read v q =
        record { follows = λ rest. optional-is rest ∙ ap (λ x. numbered (number_in line x) rest) q; inside = rw q at n.inside; small = rw q at n.small }

-- ---- a label
closed_is : (s : Bytes) (n : ℕ) → length s ≡ suc n → closed s ≡ cond (eqb (get_or s n 0) quote) (some (take n s)) none
unfolding closed
closed_is [] n e = absurd (omega arith)
closed_is (b ∷ []) n e = let z : n ≡ 0 = omega arith in rw z refl
closed_is (b ∷ c ∷ s) zero e = absurd (omega arith)
closed_is (b ∷ c ∷ s) (suc n) e = rw (closed_is (c ∷ s) n (omega arith), closed) (go (eqb (get_or (c ∷ s) n 0) quote))
  where
    go : (y : Bool) → ◌≡◌ {A = Option Bytes} (elim (cond y (some (take n (c ∷ s))) none) as (λ z. Option Bytes) [ none ↦ none | some t ↦ some (b ∷ t) ]) (cond y (some (b ∷ take n (c ∷ s))) none)
    go true = refl
    go false = refl

-- what follows an opening quote
unclosed : Option Bytes → (Bytes → Line) → Line
unclosed none rest = wrong OpenLabel
unclosed (some x) rest = rest x

quoted : Option Bytes → (Bytes → Line) → Line
quoted none rest = wrong UnknownField
quoted (some s) rest = unclosed (closed s) rest

labelled-cons : (rest : Bytes → Line) (b : ℕ) (t : Bytes) → labelled rest (b ∷ t) ≡ quoted (after label_word (b ∷ t)) rest
unfolding labelled quoted unclosed
labelled-cons rest b t = go (after label_word (b ∷ t))
  where
    more : (o : Option Bytes) → ◌≡◌ {A = Line} (elim o [ none ↦ wrong OpenLabel | some x ↦ rest x ]) (unclosed o rest)
    more none = refl
    more (some x) = refl

    go : (o : Option Bytes) → ◌≡◌ {A = Line} (elim o [ none ↦ wrong UnknownField | some s ↦ elim (closed s) [ none ↦ wrong OpenLabel | some x ↦ rest x ] ]) (quoted o rest)
    go none = refl
    go (some s) = more (closed s)

module _ (line : Bytes) (at : ℕ) where
  labelled-is : (rest : Bytes → Line) → at < length line → labelled rest (drop at line) ≡ quoted (after label_word (drop at line)) rest
  labelled-is rest h = rw (from_place line at h) (labelled-cons rest _ _)

  labelled_not : (rest : Bytes → Line) → at < length line → begins label_word (drop at line) ≡ false → labelled rest (drop at line) ≡ wrong UnknownField
  unfolding quoted
  labelled_not rest h e = labelled-is rest h ∙ ap (λ o. quoted o rest) (after_not label_word (drop at line) e)

  labelled_yes : (rest : Bytes → Line) → at < length line → begins label_word (drop at line) ≡ true → labelled rest (drop at line) ≡ unclosed (closed (drop (at + 2) line)) rest
  unfolding quoted
  labelled_yes rest h e = labelled-is rest h ∙ ap (λ o. quoted o rest) (after_yes label_word (drop at line) e) ∙ ap (λ s. unclosed (closed s) rest) (past_word label_word line at)

  labelled-end : (rest : Bytes → Line) → length line ≤ at → labelled rest (drop at line) ≡ rest []
  unfolding labelled
  labelled-end rest h = rw (past_end line at h) refl

  none-long : at - at ≡ 0
  none-long = omega arith

  pub label-left : length line ≤ at → at ≤ length line → Labels line at (Ok (record { start = at; end = at }))
  unfolding label_in text_in
  label-left h k = record { follows = λ rest. labelled-end rest h ∙ rw none-long refl; upward = omega arith; inside = k }

  pub label-other : at < length line → begins label_word (drop at line) ≡ false → Labels line at (Err UnknownField)
  unfolding label_in
  label-other h e = record { follows = λ rest. labelled_not rest h e; upward = omega arith; inside = omega arith }

  closed_short : length line ≤ at + 2 → closed (drop (at + 2) line) ≡ none
  unfolding closed
  closed_short h = rw (past_end line (at + 2) h) refl

  pub label_short : at < length line → begins label_word (drop at line) ≡ true → length line ≤ at + 2 → Labels line at (Err OpenLabel)
  unfolding label_in unclosed
  label_short h e k = record { follows = λ rest. labelled_yes rest h e ∙ ap (λ o. unclosed o rest) (closed_short k); upward = omega arith; inside = omega arith }

  rest-long : at + 2 < length line → length (drop (at + 2) line) ≡ suc (length line - 1 - (at + 2))
  rest-long h = rw (length-drop (at + 2) line) (omega arith)

  last_is : at + 2 < length line → get_or (drop (at + 2) line) (length line - 1 - (at + 2)) 0 ≡ get_or line (length line - 1) 0
  last_is h = let q : at + 2 + (length line - 1 - (at + 2)) ≡ length line - 1 = omega arith in get_or-drop (at + 2) line (length line - 1 - (at + 2)) 0 ∙ rw q refl

  closed-here : at + 2 < length line → closed (drop (at + 2) line) ≡ cond (eqb (get_or line (length line - 1) 0) quote) (some (take (length line - 1 - (at + 2)) (drop (at + 2) line))) none
  closed-here h = closed_is (drop (at + 2) line) (length line - 1 - (at + 2)) (rest-long h) ∙ rw (last_is h) refl

  closed_not : at + 2 < length line → ¬ (get_or line (length line - 1) 0 ≡ 34) → closed (drop (at + 2) line) ≡ none
  closed_not k n = closed-here k ∙ rw (ne_eqb (get_or line (length line - 1) 0) 34 n) refl

  closed_so : at + 2 < length line → get_or line (length line - 1) 0 ≡ 34 → closed (drop (at + 2) line) ≡ some (take (length line - 1 - (at + 2)) (drop (at + 2) line))
  closed_so k n = closed-here k ∙ rw (eq-eqb (get_or line (length line - 1) 0) 34 n) refl

  pub label_open : at < length line → begins label_word (drop at line) ≡ true → at + 2 < length line → ¬ (get_or line (length line - 1) 0 ≡ 34) → Labels line at (Err OpenLabel)
  unfolding label_in unclosed
  label_open h e k n =
      record { follows = λ rest. labelled_yes rest h e ∙ ap (λ o. unclosed o rest) (closed_not k n); upward = omega arith; inside = omega arith }

  pub label-closed : at < length line → begins label_word (drop at line) ≡ true → at + 2 < length line → get_or line (length line - 1) 0 ≡ 34 → Labels line at (Ok (record { start = at + 2; end = length line - 1 }))
  unfolding label_in text_in unclosed
  label-closed h e k n =
      record { follows = λ rest. labelled_yes rest h e ∙ ap (λ o. unclosed o rest) (closed_so k n); upward = omega arith; inside = omega arith }

-- ---- a kind's word
pub word_missing : (w line : Bytes) (at : ℕ) → begins w (drop at line) ≡ false → None ≡ word_at w line at
unfolding word_at
word_missing w line at e = rw e refl

pub word-goes_on : (w line : Bytes) (at : ℕ) → begins w (drop at line) ≡ true → parted (drop (at + length w) line) ≡ false → None ≡ word_at w line at
unfolding word_at
word-goes_on w line at e p = rw (e, p) refl

pub word_there : (w line : Bytes) (at : ℕ) → begins w (drop at line) ≡ true → parted (drop (at + length w) line) ≡ true → Some (at + length w) ≡ word_at w line at
unfolding word_at
word_there w line at e p = rw (e, p) refl

module _ (line : Bytes) (at : ℕ) (c : ℕ) (seen : List ℕ) (l : ℕ) where
  tried : (k : ℕ) (ks : List ℕ) → Option Bytes → Line
  tried k ks none = named c seen l ks (drop at line)
  tried k ks (some s) = cond (parted s) (fields_read c seen l k s) (named c seen l ks (drop at line))

  named_tried : (k : ℕ) (ks : List ℕ) → named c seen l (k ∷ ks) (drop at line) ≡ tried k ks (after (word k) (drop at line))
  unfolding named tried
  named_tried k ks = go (after (word k) (drop at line))
    where
      more : (s : Bytes) (y : Bool) → ◌≡◌ {A = Line} (elim y [ true ↦ fields_read c seen l k s | false ↦ named c seen l ks (drop at line) ]) (cond y (fields_read c seen l k s) (named c seen l ks (drop at line)))
      more s true = refl
      more s false = refl

      go : (o : Option Bytes) → ◌≡◌ {A = Line} (elim o [ none ↦ named c seen l ks (drop at line) | some s ↦ elim (parted s) [ true ↦ fields_read c seen l k s | false ↦ named c seen l ks (drop at line) ] ]) (tried k ks o)
      go none = refl
      go (some s) = more s (parted s)

  -- the word of kind k is there, or the next is tried
  after_here : (k : ℕ) (ks : List ℕ) → Maybe ℕ → Line
  after_here k ks None = named c seen l ks (drop at line)
  after_here k ks (Some i) = fields_read c seen l k (drop i line)

  named_step : (k : ℕ) (ks : List ℕ) → named c seen l (k ∷ ks) (drop at line) ≡ after_here k ks (word_at (word k) line at)
  unfolding word_at tried after_here
  named_step k ks = named_tried k ks ∙ go (begins (word k) (drop at line)) refl (parted (drop (at + length (word k)) line)) refl
    where
      go : (y : Bool) → begins (word k) (drop at line) ≡ y → (z : Bool) → parted (drop (at + length (word k)) line) ≡ z
          → tried k ks (after (word k) (drop at line)) ≡ after_here k ks (cond (begins (word k) (drop at line) && parted (drop (at + length (word k)) line)) (Some (at + length (word k))) None)
      go false a z b = ap (tried k ks) (after_not (word k) (drop at line) a) ∙ rw a refl
      go true a false b = ap (tried k ks) (after_yes (word k) (drop at line) a) ∙ ap (λ s. tried k ks (some s)) (past_word (word k) line at) ∙ rw (a, b) refl
      go true a true b = ap (tried k ks) (after_yes (word k) (drop at line) a) ∙ ap (λ s. tried k ks (some s)) (past_word (word k) line at) ∙ rw (a, b) refl

  named_none : named c seen l [] (drop at line) ≡ wrong UnknownWord
  unfolding named
  named_none = refl

-- the words one after another, as the code tries them
pub record Tries (line : Bytes) (at : ℕ) (ks : List ℕ) (r : Maybe Named) : Type 0 where
  pub told : (c : ℕ) (seen : List ℕ) (l : ℕ) → named c seen l ks (drop at line) ≡ name_in c seen l line r
  pub inside : IfSome r (λ n. n.next ≤ length line)

word-place : (w line : Bytes) (at r : ℕ) → at ≤ length line → Some r ≡ word_at w line at → r ≤ length line
unfolding word_at
word-place w line at r h e = go (begins w (drop at line)) refl (parted (drop (at + length w) line)) e
  where
    go : (y : Bool) → begins w (drop at line) ≡ y → (z : Bool) → Some r ≡ cond (y && z) (Some (at + length w)) None → r ≤ length line
    go false a z q = cc
    go true a false q = cc
    go true a true q = let v : r ≡ at + length w = cc in omega (arith, v, word_end w line at a h)

pub tries_here : (line : Bytes) (at k i : ℕ) (ks : List ℕ) → at ≤ length line → Some i ≡ word_at (word k) line at → Tries line at (k ∷ ks) (Some (record { kind = k; next = i }))
unfolding name_in after_here
tries_here line at k i ks h e =
    record { told = λ c seen l. named_step line at c seen l k ks ∙ ap (after_here line at c seen l k ks) (sym e); inside = word-place (word k) line at i h e }

pub tries_next : (line : Bytes) (at k : ℕ) (ks : List ℕ) (r : Maybe Named) → None ≡ word_at (word k) line at → Tries line at ks r → Tries line at (k ∷ ks) r
unfolding after_here
tries_next line at k ks r e t = record { told = λ c seen l. named_step line at c seen l k ks ∙ ap (after_here line at c seen l k ks) (sym e) ∙ t.told c seen l; inside = t.inside }

pub tries_none : (line : Bytes) (at : ℕ) → Tries line at [] None
unfolding name_in
tries_none line at = record { told = λ c seen l. named_none line at c seen l; inside = tt }

pub left_out : (o x : Maybe ℕ) → o ≡ x → ((i : ℕ) → o ≡ Some i → ⊥) → None ≡ x
left_out None x e n = e
left_out (Some i) x e n = absurd (n i refl)

pub names_all : (line : Bytes) (at : ℕ) (r : Maybe Named) → Tries line at kinds r → Names line at r
names_all line at r t = record { follows = t.told; inside = t.inside }
