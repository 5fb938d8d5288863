-- The pass from the first cell to the last, and the walk along the children of one: what their loops keep. Assumes nothing.
use mathlib.Core.Path.{◌≡◌, refl, sym, ap, ◌∙◌}
use mathlib.Core.List.{List, [], ◌∷◌}
use mathlib.Core.Logic.{◌≢◌}
use Prim.Native.Nat.{ℕ, zero, suc, ◌+◌, ◌≤◌, ◌<◌}
use native.Mathlib.Omega.{arith}
use native.Mathlib.Numerals.{add-one}
use lib.ListN.{length, set, length-set}
use Rattle.plan.specs.declared.Columns.{Columns}
use Rattle.plan.specs.Limits.{most_cells}
use Rattle.plan.specs.Lists.{total}
use Rattle.plan.specs.Plan.{Is, children}
use Rattle.plan.proofs.Laws.Plan.{children_few}
use Rattle.plan.specs.Fit.{Fit}
use Rattle.plan.specs.Columns.{table_of}
use Rattle.plan.proofs.Laws.Tables.{length-is, count_few}
use Rattle.links.specs.Links.{link, Links}
use Rattle.links.specs.Chain.{Chain, line_of}
use Rattle.links.proofs.Laws.Chain.{spell-none, Step, step, chain-spell, children-chain}
use Rattle.links.proofs.Laws.Build.{chain_few}
use Rattle.spans.specs.Spans.{at, Sized, Spans}
use Rattle.spans.proofs.Laws.Columns.{all, all-long, all-at, put}
use Rattle.spans.specs.Shared.{Cols, cols, Long, share, spread, spread_at, next_size, kids, or_none, Sharing}
use Rattle.spans.proofs.Laws.Laid.{share-long, spread_none, spread-cons, Laid, laid_start, laid_next, room-here, spans}

-- ---- along the children of f: the walk is at s, whose span begins at a, and that of the sibling before it at b
pub record Shares (ls sizes : List ℕ) (c₀ : Cols) (f : ℕ) (c : Cols) (s b a : ℕ) : Type 0 where
  pub long : Long c
  pub few : s < most_cells
  pub chain : Chain ls s (line_of ls s)
  pub same : spread (at sizes) c b a (line_of ls s) ≡ spread_at (at sizes) c₀ f (kids ls f)
  pub room : a + total (at sizes) (line_of ls s) ≤ most_cells

pub or_none-is : (xs : List ℕ) (s : ℕ) → s ≢ 0 → at xs s ≡ or_none xs s
or_none-is xs zero h = absurd (h refl)
or_none-is xs (suc m) h = refl

module _ (ls sizes : List ℕ) where
  next-is : (s : ℕ) → Chain ls s (line_of ls s) → or_none sizes s ≡ next_size (at sizes) (line_of ls s)
  next-is zero c = rw (spell-none ls most_cells)
  next-is (suc m) c = rw (step ls most_cells (suc m) (omega arith) c).is

  next_low : (s : ℕ) → Chain ls s (line_of ls s) → or_none sizes s ≤ total (at sizes) (line_of ls s)
  unfolding total
  next_low zero c = omega arith
  next_low (suc m) c = rw (step ls most_cells (suc m) (omega arith) c).is (omega arith)

  module _ (c₀ : Cols) (f : ℕ) (h : Sharing ls sizes c₀ f) where
    pub shares_start : {s a : ℕ} → s ≡ link ls f 0 → a ≡ at c₀.firsts f + 1 → Shares ls sizes c₀ f c₀ s a a
    shares_start e q = rw (e, q) (record { long = h.long; few = chain_few ls (link ls f 0) h.chain; chain = h.chain; same = refl; room = h.small })

    module _ {c : Cols} {s b a : ℕ} (g : Shares ls sizes c₀ f c s b a) where
      module _ (p : 0 < s) where
        on : Step ls most_cells s
        on = step ls most_cells s p g.chain

        pub shares_now : a + at sizes s ≤ most_cells
        unfolding total
        shares_now = let z = ap (total (at sizes)) on.is in omega (arith, g.room)

        module _ {n : ℕ} (e : n ≡ link ls s 1) where
          n-chain : Chain ls n (line_of ls n)
          n-chain = rw e on.rest

          line-is : line_of ls s ≡ s ∷ line_of ls n
          line-is = on.is ∙ rw e

          pub shares_fit : a + at sizes s + or_none sizes n ≤ most_cells
          unfolding total
          shares_fit = let z = ap (total (at sizes)) line-is in omega (arith, g.room, next_low n n-chain)

          pub next_few : n < most_cells
          next_few = chain_few ls n n-chain

          pub shares_next : {z : ℕ} → z ≡ or_none sizes n → Shares ls sizes c₀ f (share (at sizes) c b a s z) n a (a + at sizes s)
          unfolding total
          shares_next q =
              let q' = q ∙ next-is n n-chain in
              record {
                long = share-long (at sizes) c b a s _ g.long;
                few = next_few;
                chain = n-chain;
                same = rw q' (sym (spread-cons (at sizes) c b a s (line_of ls n)) ∙ ap (spread (at sizes) c b a) (sym line-is) ∙ g.same);
                room = let z = ap (total (at sizes)) line-is in omega (arith, g.room);
              }

          pub shares_less : length (line_of ls n) < length (line_of ls s)
          shares_less = rw line-is (omega arith)

      pub shares_end : ¬ (0 < s) → c ≡ spread_at (at sizes) c₀ f (kids ls f)
      shares_end n =
          let z : s ≡ 0 = omega arith in
          let none : line_of ls s ≡ [] = rw z (spell-none ls most_cells) in
          sym (spread_none (at sizes) c b a) ∙ ap (spread (at sizes) c b a) (sym none) ∙ g.same

-- ---- over the cells
pub record Laying (t : Columns) (sizes : List ℕ) (c : ℕ) (k : Cols) : Type 0 where
  pub high : c ≤ t.count
  pub laid : Laid (table_of t) (at sizes) c k

module _ (t : Columns) (fit : Fit (table_of t)) (ls : List ℕ) (links : Links (table_of t) ls) (sizes : List ℕ) (z : Sized (table_of t) (at sizes)) where
  few : length (table_of t) ≤ most_cells
  few = fit.not_too_many

  pub laying_starts : (v : ℕ) → v ≡ at sizes 0 → Laying t sizes 0 (cols (all 0) (set (all 0) 0 v) (all 0) (set (all 0) 0 v))
  laying_starts v e =
      rw e
      (record {
        high = omega arith;
        laid =
            laid_start (table_of t) fit.sound few z (cols (all 0) (set (all 0) 0 (at sizes 0)) (all 0) (set (all 0) 0 (at sizes 0))) fit.some_cell
            (record { firsts_long = all-long 0; ends_long = simp length-set (all-long 0); froms_long = all-long 0; tos_long = simp length-set (all-long 0) })
            (all-at 0 0 (omega arith)) (put (all 0) 0 _ (omega (arith, all-long 0))).here (all-at 0 0 (omega arith)) (put (all 0) 0 _ (omega (arith, all-long 0))).here;
      })

  module _ {c : ℕ} {k : Cols} (h : Laying t sizes c k) (more : c < t.count) where
    is : Is (table_of t) c
    is = omega (arith, length-is t)

    chain : Chain ls (link ls c 0) (children (table_of t) c)
    chain = children-chain (table_of t) few ls links c is

    kids_are : kids ls c ≡ children (table_of t) c
    kids_are = chain-spell ls most_cells (link ls c 0) (children (table_of t) c) chain (omega (arith, children_few (table_of t) c, few))

    pub sharing : Sharing ls sizes k c
    sharing = record {
      long = h.laid.long;
      is = omega (arith, count_few t fit);
      links_long = links.size;
      chain = rw kids_are chain;
      small = rw kids_are (omega (arith, room-here (table_of t) fit.sound few z c is k h.laid, few));
    }

    pub laying_turns : {k' : Cols} → k' ≡ spread_at (at sizes) k c (kids ls c) → Laying t sizes (c + 1) k'
    laying_turns e = rw (e, kids_are, add-one) (record { high = omega arith; laid = laid_next (table_of t) fit.sound few z c is k h.laid })

  pub laying_ends : {c : ℕ} {k : Cols} → Laying t sizes c k → t.count ≤ c → Spans (table_of t) (at k.firsts) (at k.ends) (at k.froms) (at k.tos)
  laying_ends {c} {k} h l =
      let e : c ≡ length (table_of t) = omega (arith, h.high, length-is t) in
      spans (table_of t) fit.sound few z k fit.some_cell (rw e at h.laid)
