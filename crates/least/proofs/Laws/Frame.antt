-- THE ALLOWANCE THAT FITS THE FRAME (document 02, E2): the answer as a definition, what it means, and the laws by which halving finds it. Assumes nothing.
use Rattle.std.proofs.Math.Path.{◌≡◌, refl}
use Rattle.std.proofs.Common.{ap, ◌∙◌}
use Rattle.std.specs.Prelude.{Bool, ◌↔◌, length, ◌≤ℤ◌, ◌<ℤ◌}
use Rattle.std.proofs.Math.Bool.{true, false, cond}
use Prim.Native.Nat.{ℕ, zero, suc, ◌+◌, ◌≤◌, ◌<◌}
use native.Mathlib.Omega.{arith}
use Rattle.std.proofs.Math.Decide.{ℕ_discrete, dec_lt}
use Rattle.std.proofs.Math.Dec.{T}
use Rattle.std.proofs.Math.IntN.{pos}
use Rattle.whole.proofs.Laws.Whole.{whole, not_le}
use Rattle.whole.proofs.Laws.Says.{says_le_z}
use Rattle.plan.specs.Limits.{most_allowance}
use Rattle.plan.specs.Plan.{Table, Sound}
use Rattle.rules.specs.Placement.{width}
use Rattle.contours.specs.Sheet.{sheet}
use Rattle.least.proofs.Theorems.{wider_allowance}
use Rattle.least.specs.Frame.{Found, nowhere, found, first_of, fits, least_allowance, Least}

-- a passes, and none before it
pub record First (f : ℕ → Bool) (k d a : ℕ) : Type 0 where
  pub low : k ≤ a
  pub high : a < k + d
  pub passes : T (f a)
  pub none_before : (b : ℕ) → k ≤ b → b < a → ¬ T (f b)

module _ (f : ℕ → Bool) where
  first_cases : (k d : ℕ) (r : Found) → first_of f k d ≡ r → elim r as (λ _. Type 0) [ nowhere ↦ ((b : ℕ) → k ≤ b → b < k + d → ¬ T (f b)) | found a ↦ First f k d a ]
  unfolding first_of
  first_cases k zero nowhere e = λ b l h _. omega arith
  first_cases k zero (found a) e = absurd (let z : ◌≡◌ {A = ℕ} 0 1 = cc in omega arith)
  first_cases k (suc d) r e = go (f k) refl r e (first_cases (suc k) d r)
    where
      go : (v : Bool) → f k ≡ v → (r : Found) → cond v (found k) (first_of f (suc k) d) ≡ r
          → (first_of f (suc k) d ≡ r → elim r as (λ _. Type 0) [ nowhere ↦ ((b : ℕ) → suc k ≤ b → b < suc k + d → ¬ T (f b)) | found a ↦ First f (suc k) d a ])
          → elim r as (λ _. Type 0) [ nowhere ↦ ((b : ℕ) → k ≤ b → b < k + suc d → ¬ T (f b)) | found a ↦ First f k (suc d) a ]
      go true q nowhere e rest = absurd (let z : ◌≡◌ {A = ℕ} 0 1 = cc in omega arith)
      go true q (found a) e rest =
          let z : k ≡ a = cc in
          record { low = omega arith; high = omega arith; passes = rw (← z, q) tt; none_before = λ b l h _. omega arith }
      go false q nowhere e rest = λ b l h t. elim (ℕ_discrete b k) [ yes z ↦ rw (z, q) at t | no z ↦ rest e b (omega arith) (omega arith) t ]
      go false q (found a) e rest =
          let g = rest e in
          record {
            low = omega (arith, g.low);
            high = omega (arith, g.high);
            passes = g.passes;
            none_before = λ b l h t. elim (ℕ_discrete b k) [ yes z ↦ rw (z, q) at t | no z ↦ g.none_before b (omega arith) h t ];
          }

  first_one : (k d a b : ℕ) → First f k d a → First f k d b → a ≡ b
  first_one k d a b g h = go (dec_lt a b) (dec_lt b a)
    where
      go : Dec (a < b) → Dec (b < a) → a ≡ b
      go (yes l) _ = absurd (h.none_before a g.low l g.passes)
      go (no _) (yes l) = absurd (g.none_before b h.low l h.passes)
      go (no l) (no m) = omega arith

  -- the first is found, and what is found is the first
  pub found_first : (k d a : ℕ) → (first_of f k d ≡ found a) ↔ First f k d a
  found_first k d a = (first_cases k d (found a), λ g. back g (first_of f k d) refl)
    where
      back : First f k d a → (r : Found) → first_of f k d ≡ r → first_of f k d ≡ found a
      back g nowhere e = absurd (first_cases k d nowhere e a g.low g.high g.passes)
      back g (found b) e = e ∙ ap found (first_one k d b a (first_cases k d (found b) e) g)

  pub nowhere-none : (k d : ℕ) → (first_of f k d ≡ nowhere) ↔ ((b : ℕ) → k ≤ b → b < k + d → ¬ T (f b))
  nowhere-none k d = (first_cases k d nowhere, λ h. back h (first_of f k d) refl)
    where
      back : ((b : ℕ) → k ≤ b → b < k + d → ¬ T (f b)) → (r : Found) → first_of f k d ≡ r → first_of f k d ≡ nowhere
      back h nowhere e = e
      back h (found b) e = let g : First f k d b = first_cases k d (found b) e in absurd (h b g.low g.high g.passes)

module _ (t : Table) (some_cell : 1 ≤ length t) (sound : Sound t) (frame : ℕ) where
  fits_read : (al : ℕ) → T (fits t frame al) → width t (sheet t al) ≤ℤ pos frame
  unfolding fits
  fits_read al h = (says_le_z (width t (sheet t al)) (pos frame)).read h

  fits_show : (al : ℕ) → width t (sheet t al) ≤ℤ pos frame → T (fits t frame al)
  unfolding fits
  fits_show al h = (says_le_z (width t (sheet t al)) (pos frame)).show h

  -- what fits for an allowance fits for a larger one
  pub fits_wider : (al al' : ℕ) → al ≤ al' → T (fits t frame al) → T (fits t frame al')
  fits_wider al al' h k = fits_show al' (omega (whole, (wider_allowance t some_cell sound al al' h).wide, fits_read al k))

  -- what is found is the least that fits, and it is found
  pub found-least : (a : ℕ) → (least_allowance t frame ≡ found a) ↔ Least t frame a
  unfolding least_allowance
  found-least a = (λ e. there ((found_first (fits t frame) 0 (most_allowance + 1) a).0 e), λ n. (found_first (fits t frame) 0 (most_allowance + 1) a).1 (back n))
    where
      there : First (fits t frame) 0 (most_allowance + 1) a → Least t frame a
      there g = record {
        small = omega (arith, g.high);
        inside = fits_read a g.passes;
        wider_before = λ b h. not_le (λ k. g.none_before b (omega arith) h (fits_show b k));
      }

      back : Least t frame a → First (fits t frame) 0 (most_allowance + 1) a
      back n = record {
        low = omega arith;
        high = omega (arith, n.small);
        passes = fits_show a n.inside;
        none_before = λ b l h k. let w = n.wider_before b h in let v = fits_read b k in omega whole;
      }

  -- "None" if and only if the sheet at 65,535 is wider
  pub nowhere-wide : (least_allowance t frame ≡ nowhere) ↔ (pos frame <ℤ width t (sheet t most_allowance))
  unfolding least_allowance
  nowhere-wide = (there, back)
    where
      there : first_of (fits t frame) 0 (most_allowance + 1) ≡ nowhere → pos frame <ℤ width t (sheet t most_allowance)
      there e = not_le (λ k. (nowhere-none (fits t frame) 0 (most_allowance + 1)).0 e most_allowance (omega arith) (omega arith) (fits_show most_allowance k))

      back : pos frame <ℤ width t (sheet t most_allowance) → first_of (fits t frame) 0 (most_allowance + 1) ≡ nowhere
      back w = (nowhere-none (fits t frame) 0 (most_allowance + 1)).1 (λ b l h k. let v = fits_read most_allowance (fits_wider b most_allowance (omega arith) k) in omega whole)

  -- an allowance whose sheet fits bounds the answer; so a frame of the width of the sheet at a gives at most a
  pub record AtMost (a : ℕ) : Type 0 where
    pub b : ℕ
    pub is : least_allowance t frame ≡ found b
    pub bound : b ≤ a

  pub fits_bounds : (a : ℕ) → a ≤ most_allowance → width t (sheet t a) ≤ℤ pos frame → AtMost a
  fits_bounds a h w = go (least_allowance t frame) refl
    where
      go : (r : Found) → least_allowance t frame ≡ r → AtMost a
      go nowhere e = absurd (let k = nowhere-wide.0 e in let v = fits_read most_allowance (fits_wider a most_allowance h (fits_show a w)) in omega whole)
      go (found b) e = record { b = b; is = e; bound = not_less ((found-least b).0 e) (dec_lt a b) }
        where
          not_less : Least t frame b → Dec (a < b) → b ≤ a
          not_less n (yes l) = absurd (let k = n.wider_before a l in omega whole)
          not_less n (no l) = omega arith

  -- ---- halving: all below lo are too wide, hi fits
  pub record Halved (lo hi : ℕ) : Type 0 where
    pub order : lo ≤ hi
    pub most : hi ≤ most_allowance
    pub wide_below : (b : ℕ) → b < lo → ¬ T (fits t frame b)
    pub hi_fits : T (fits t frame hi)

  pub halved_start : T (fits t frame most_allowance) → Halved 0 most_allowance
  halved_start h = record { order = omega arith; most = omega arith; wide_below = λ b l _. omega arith; hi_fits = h }

  pub halved_fits : (lo hi mid : ℕ) → Halved lo hi → lo ≤ mid → mid < hi → T (fits t frame mid) → Halved lo mid
  halved_fits lo hi mid k l h m = record { order = l; most = omega (arith, k.most); wide_below = k.wide_below; hi_fits = m }

  pub halved_wide : (lo hi mid : ℕ) → Halved lo hi → lo ≤ mid → mid < hi → ¬ T (fits t frame mid) → Halved (mid + 1) hi
  halved_wide lo hi mid k l h m = record { order = omega arith; most = k.most; wide_below = λ b c n. m (fits_wider b mid (omega arith) n); hi_fits = k.hi_fits }

  pub halved_done : (lo hi : ℕ) → Halved lo hi → hi ≤ lo → least_allowance t frame ≡ found hi
  unfolding least_allowance
  halved_done lo hi k h =
      (found_first (fits t frame) 0 (most_allowance + 1) hi).1
      (record { low = omega arith; high = omega (arith, k.most); passes = k.hi_fits; none_before = λ b l m n. k.wide_below b (omega arith) n })
