-- The lowest cell that is missing, the corners moved, and the whole answer. Assumes nothing.
use Rattle.std.specs.Prelude.{◌≡◌, refl, Bool, true, false, cond, leb, ltb, List, ℕ, zero, suc, ◌+◌, ◌-◌, ◌*◌, ◌≤◌, ◌<◌, ℤ, pos, ◌-ℤ◌, length, get_or, replicate, Some, None, Result, Ok, Err, IsErrAnd, ⊤}
use Rattle.std.proofs.Math.Path.{sym}
use Rattle.std.proofs.Common.{ap, ◌∙◌, arith}
use Rattle.std.proofs.lemmas.List.{length-replicate}
use borrow.Author.Tests.{eq-eqb, ne_eqb, lt-ltb, le-ltb, le-leb, lt-leb}
use Rattle.plan.specs.declared.Refusal.{Refusal}
use Rattle.plan.specs.Questions.{asked, passed}
use Rattle.plan.proofs.Laws.Answered.{refused_by, passes}
use Rattle.plan.proofs.Laws.Questions.{asked_yes}
use Rattle.std.proofs.Common.{leb→le}
use Rattle.whole.specs.Range.{InRange}
use Rattle.whole.specs.Bias.{bias}
use Rattle.whole.proofs.Laws.Whole.{whole, diff}
use Rattle.plan.specs.Limits.{most_cells, farthest}
use Rattle.rules.specs.Placement.{placed}
use Rattle.positions.specs.Written.{corners, written}
use Rattle.listing.specs.Printed.{Bytes}
use Rattle.drawing_spec.specs.Said.{placed_at, wrong, empty_sheet, lowest, moved, complete, said}
use Rattle.drawing_spec.specs.declared.Fault.{Fault}
use Rattle.drawing_spec.specs.declared.Fault.TheVariants.{Missing, Long}
use Rattle.drawing.specs.Drawn.{most_text, drawn_of, positions_after, Draws}
use Rattle.drawing.specs.Steps.{Held, Sized, sketch, read_said, Reads, missing}
use Rattle.drawing.proofs.Laws.Numbers.{zero_near}
use Rattle.drawing_spec.specs.declared.DrawError.{DrawError}
use Rattle.drawing_spec.specs.declared.DrawError.TheVariants.{Wrong, Refused}

-- ---- the lowest that is missing
lowest-more : (g : List ℕ) (c d : ℕ) → ¬ (get_or g c 0 ≡ 0) → lowest g c (suc d) ≡ lowest g (suc c) d
unfolding lowest
lowest-more g c d h = rw (ne_eqb (get_or g c 0) 0 h, lowest)

lowest-stop : (g : List ℕ) (c d : ℕ) → get_or g c 0 ≡ 0 → lowest g c (suc d) ≡ c
unfolding lowest
lowest-stop g c d h = rw (eq-eqb (get_or g c 0) 0 h, lowest)

lowest-none : (g : List ℕ) (c : ℕ) → lowest g c 0 ≡ c
unfolding lowest
lowest-none g c = refl

module _ (g : List ℕ) (n c : ℕ) (e : lowest g 0 n ≡ lowest g c (n - c)) where
  found : c < n → get_or g c 0 ≡ 0 → c ≡ lowest g 0 n
  found h z = let q : n - c ≡ suc (n - (c + 1)) = omega arith in sym (e ∙ rw q (lowest-stop g c (n - (c + 1)) z))

  pub lowest-here : c < n → get_or g c 0 ≡ 0 → Some c ≡ missing g n
  unfolding missing
  lowest-here h z = rw (← found h z, lt-ltb c n h)

  pub lowest-later : c < n → ¬ (get_or g c 0 ≡ 0) → lowest g 0 n ≡ lowest g (c + 1) (n - (c + 1))
  lowest-later h z =
      let q : n - c ≡ suc (n - (c + 1)) = omega arith in
      let p : c + 1 ≡ suc c = omega arith in
      e ∙ ap (lowest g c) q ∙ lowest-more g c (n - (c + 1)) z ∙ ap (λ k. lowest g k (n - (c + 1))) (sym p)

  pub lowest-end : n ≤ c → None ≡ missing g n
  unfolding missing
  lowest-end h =
      let q : n - c ≡ 0 = omega arith in
      let f : c ≡ lowest g 0 n = sym (e ∙ rw q (lowest-none g c)) in
      rw (← f, le-ltb c n h)

pub lowest_start : (g : List ℕ) (n : ℕ) → lowest g 0 n ≡ lowest g 0 (n - 0)
lowest_start g n = let q : n - 0 ≡ n = omega arith in rw q

-- ---- the corners moved
pub apart_is : (z w : ℤ) (a b : ℕ) (r : ℤ) → InRange farthest z → InRange farthest w → a ≡ bias farthest z → b ≡ bias farthest w → r ≡ pos a -ℤ pos b → r ≡ z -ℤ w
apart_is z w a b r h k p q e = e ∙ omega (whole, diff (pos a) (pos b), diff z w, h.low, h.high, k.low, k.high)

pub bias_small : (z : ℤ) (a : ℕ) → InRange farthest z → a ≡ bias farthest z → a ≤ farthest + farthest
bias_small z a h e = omega (whole, h.low, h.high)

pub moved-x : (ps : List ℤ) (c : ℕ) → get_or ps (2 * c) (pos 0) -ℤ get_or ps 0 (pos 0) ≡ (moved (placed ps)).x c
unfolding moved placed
moved-x ps c = refl

pub moved-y : (ps : List ℤ) (c : ℕ) → get_or ps (2 * c + 1) (pos 0) -ℤ get_or ps 1 (pos 0) ≡ (moved (placed ps)).y c
unfolding moved placed
moved-y ps c = refl

-- ---- the whole answer
asked-refusal : (k : ℕ) (b : Bool) (e : Refusal) → 0 < k → Err e ≡ passed (asked k b 0) → (b ≡ false) × (e ≡ record { number = k; cell = 0 })
unfolding asked
asked-refusal k true e l h = absurd ((refused_by _ tt e h).1 refl)
asked-refusal k false e l h = (refl, (refused_by _ tt e h).0)

-- what `?` hands on
handed : {E : Type 0} (y : Result ⊤ DrawError) (f : E → DrawError) (e : E) → IsErrAnd y (λ d. d ≡ f e) → y ≡ Err (f e)
handed (Ok u) f e p = absurd p
handed (Err d) f e p = ap Err p

refuses : (b : Bool) (k : ℕ) (e : Refusal) (y : Result ⊤ DrawError) → 0 < k → Err e ≡ passed (asked k b 0) → IsErrAnd y (λ d. d ≡ Refused e) → (b ≡ false) × (y ≡ Err (Refused (record { number = k; cell = 0 })))
refuses b k e y l h p = let (f, q) = asked-refusal k b e l h in (f, handed y Refused e p ∙ ap (λ r. Err (Refused r)) q)

pub asked_small : (k a b : ℕ) (u : ⊤) → Ok u ≡ passed (asked (suc k) (leb a b) 0) → a ≤ b
asked_small k a b u h = leb→le a b (asked_yes k _ 0 (passes _ u h))

module _ (g : List ℕ) (n : ℕ) where
  missing_said : (c : ℕ) (qs : List ℤ) → Some c ≡ missing g n → complete n (sketch g qs) ≡ wrong (Missing c)
  unfolding missing complete
  missing_said c qs e = go (ltb (lowest g 0 n) n) e
    where
      go : (b : Bool) → Some c ≡ cond b (Some (lowest g 0 n)) None → cond b (wrong (Missing (lowest g 0 n))) (placed_at (corners (moved (placed qs)) 0 n)) ≡ wrong (Missing c)
      go true q = let z : c ≡ lowest g 0 n = cc in ap (λ k. wrong (Missing k)) (sym z)
      go false q = cc

  all_said : (qs : List ℤ) → None ≡ missing g n → complete n (sketch g qs) ≡ placed_at (corners (moved (placed qs)) 0 n)
  unfolding missing complete
  all_said qs e = go (ltb (lowest g 0 n) n) e
    where
      go : (b : Bool) → None ≡ cond b (Some (lowest g 0 n)) None → cond b (wrong (Missing (lowest g 0 n))) (placed_at (corners (moved (placed qs)) 0 n)) ≡ placed_at (corners (moved (placed qs)) 0 n)
      go true q = cc
      go false q = refl

module _ (n : ℕ) (text : Bytes) (ps : List ℤ) where
  pub drawn_many : (e : Refusal) (y : Result ⊤ DrawError) → Err e ≡ passed (asked 4 (leb n most_cells) 0) → IsErrAnd y (λ d. d ≡ Refused e) → Draws n text ps ps y
  drawn_many e y h p = let (f, q) = refuses _ 4 e y (omega arith) h p in record { answers = q ∙ rw f; positions = rw f }

  module _ (few : n ≤ most_cells) where
    pub drawn_short : (e : Refusal) (y : Result ⊤ DrawError) → Err e ≡ passed (asked 1 (leb (2 * n) (length ps)) 0) → IsErrAnd y (λ d. d ≡ Refused e) → Draws n text ps ps y
    drawn_short e y h p = let (f, q) = refuses _ 1 e y (omega arith) h p in record { answers = q ∙ rw (le-leb n most_cells few, f); positions = rw (le-leb n most_cells few, f) }

    module _ (room : 2 * n ≤ length ps) where
      pub drawn_long : most_text < length text → Draws n text ps ps (Err (Wrong Long))
      drawn_long h =
          record {
            answers = rw (le-leb n most_cells few, le-leb (2 * n) (length ps) room, lt-leb (length text) most_text h);
            positions = rw (le-leb n most_cells few, le-leb (2 * n) (length ps) room, lt-leb (length text) most_text h);
          }

      module _ (short : length text ≤ most_text) where
        -- what is answered and left is what the text says
        draws : (r : Result ⊤ DrawError) (ps' : List ℤ) → r ≡ drawn_of (said n text) → ps' ≡ positions_after n (said n text) ps → Draws n text ps ps' r
        draws r ps' a p =
            record {
              answers = rw (le-leb n most_cells few, le-leb (2 * n) (length ps) room, le-leb (length text) most_text short) a;
              positions = rw (le-leb n most_cells few, le-leb (2 * n) (length ps) room, le-leb (length text) most_text short) p;
            }

        drawn_wrong : (f : Fault) → said n text ≡ wrong f → (y : Result ⊤ DrawError) → y ≡ Err (Wrong f) → Draws n text ps ps y
        unfolding drawn_of positions_after
        drawn_wrong f q y e = draws y ps (e ∙ sym (ap drawn_of q)) (sym (ap (λ x. positions_after n x ps) q))

        module _ (g : List ℕ) (qs : List ℤ) (r : Result ⊤ Fault) (h : Reads n text (replicate most_cells 0) (replicate (2 * most_cells) (pos 0)) g qs r) where
          said-is : said n text ≡ read_said n g qs r
          unfolding said empty_sheet
          said-is = sym h.is

        pub drawn_fault : (g : List ℕ) (qs : List ℤ) (f : Fault) → Reads n text (replicate most_cells 0) (replicate (2 * most_cells) (pos 0)) g qs (Err f) → (y : Result ⊤ DrawError) → IsErrAnd y (λ d. d ≡ Wrong f) → Draws n text ps ps y
        unfolding read_said
        drawn_fault g qs f h y p = drawn_wrong f (said-is g qs (Err f) h) y (handed y Wrong f p)

        module _ (g : List ℕ) (qs : List ℤ) (u : ⊤) (h : Reads n text (replicate most_cells 0) (replicate (2 * most_cells) (pos 0)) g qs (Ok u)) where
          said-complete : said n text ≡ complete n (sketch g qs)
          unfolding read_said
          said-complete = said-is g qs (Ok u) h

          pub drawn_missing : (c : ℕ) → Some c ≡ missing g n → Draws n text ps ps (Err (Wrong (Missing c)))
          drawn_missing c e = drawn_wrong (Missing c) (said-complete ∙ missing_said g n c qs e) (Err (Wrong (Missing c))) refl

          pub drawn_placed : None ≡ missing g n → (ps' : List ℤ) → ps' ≡ written ps (moved (placed qs)) n → (v : ⊤) → Draws n text ps ps' (Ok v)
          unfolding drawn_of positions_after written
          drawn_placed e ps' w v = let q = said-complete ∙ all_said g n qs e in draws (Ok v) ps' (sym (ap drawn_of q)) (w ∙ sym (ap (λ x. positions_after n x ps) q))

-- ---- nothing read yet
pub zeros_held : (n : ℕ) → Held (replicate n (pos 0))
zeros_held zero i = zero_near
zeros_held (suc n) zero = zero_near
zeros_held (suc n) (suc i) = zeros_held n i

pub zeros-sized : (n : ℕ) → n ≤ most_cells → Sized n (replicate most_cells 0) (replicate (2 * most_cells) (pos 0))
zeros-sized n h = record { few = h; flags = length-replicate {A = ℕ} most_cells 0; room = length-replicate {A = ℤ} (2 * most_cells) (pos 0) }
