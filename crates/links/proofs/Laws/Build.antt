-- Laws of the definitions in specs/Build.antt. Assumes nothing.
use Rattle.std.specs.Prelude.{◌≡◌, refl, ◌≢◌, List, [], ◌∷◌, Bool, true, false, ℕ, zero, suc, ◌+◌, ◌-◌, ◌*◌, ◌≤◌, ◌<◌, get_or, set, T, ltb}
use Rattle.std.proofs.Common.{◌∙◌, sym, add-one, zero-add, ltb→lt, lt→ltb}
use Rattle.std.proofs.Math.Path.{ap}
use native.Mathlib.Omega.{arith}
use Rattle.std.proofs.Math.ListN.{length, length-set}
use Rattle.std.proofs.Math.Seq.{get_or-set_other}
use Rattle.plan.specs.Limits.{most_cells}
use Rattle.plan.specs.Plan.{appointed}
use Rattle.plan.proofs.Laws.Plan.{appointed-within}
use Rattle.links.specs.Links.{link}
use Rattle.links.specs.Chain.{Chain, spell, line_of, seek, goes_on, link_in}
use Rattle.links.proofs.Laws.Chain.{spell-none, spell-length, Step, step, seek-none, seek-stops, seek-goes_on, Where, seek_where, chain-mem, chain-other}
use Rattle.links.specs.Build.{up, head, kids, chain_one, chained, numbered, number_one, counted, placed, links_of, Seeking, Numbering, Appointing}

-- ---- the walk to the link of a cell of rank q: it is at the link `at`, which leads to s
pub record Sought (qs ls : List ℕ) (from q at s : ℕ) : Type 0 where
  pub inside : at < length ls
  pub here : s ≡ get_or ls at 0
  pub chain : Chain ls s (line_of ls s)
  pub same : seek qs q at (line_of ls s) ≡ seek qs q from (line_of ls (get_or ls from 0))

goes-read : (qs : List ℕ) (s q : ℕ) → T (goes_on qs s q) → (0 < s) × (get_or qs s 0 < q)
goes-read qs zero q h = absurd h
goes-read qs (suc m) q h = (omega arith, ltb→lt _ _ h)

stays_read : (qs : List ℕ) (s q : ℕ) → ¬ T (goes_on qs s q) → 0 < s → q ≤ get_or qs s 0
stays_read qs zero q h p = absurd (omega arith)
stays_read qs (suc m) q h p = let n : ¬ (get_or qs (suc m) 0 < q) = λ k. h (lt→ltb _ _ k) in omega arith

pub goes-is : (qs : List ℕ) (s q : ℕ) → s ≢ 0 → ltb (get_or qs s 0) q ≡ goes_on qs s q
goes-is qs zero q h = absurd (h refl)
goes-is qs (suc m) q h = refl

pub passes : {b c : Bool} → b ≡ c → b ≡ true → T c
passes e h = rw (sym e ∙ h) tt

pub fails : {b c : Bool} → b ≡ c → b ≡ false → ¬ T c
fails e h t = rw (sym e ∙ h) at t

pub chain_few : (ls : List ℕ) (s : ℕ) → Chain ls s (line_of ls s) → s < most_cells
chain_few ls zero c = omega arith
chain_few ls (suc m) c = (step ls most_cells (suc m) (omega arith) c).few

module _ (qs ls : List ℕ) (from q : ℕ) (h : Seeking qs ls from) where
  pub slot_inside : {r : ℕ} → r ≡ seek qs q from (line_of ls (get_or ls from 0)) → r < length ls
  slot_inside e = rw e (go (seek_where qs q from (line_of ls (get_or ls from 0))))
    where
      go : {r : ℕ} → Where qs q from (line_of ls (get_or ls from 0)) r → r < length ls
      go (Where.head e) = omega (arith, h.inside)
      go (Where.after x m e) = omega (arith, h.room, chain-mem ls (get_or ls from 0) (line_of ls (get_or ls from 0)) h.chain x m)

  pub sought_start : {s : ℕ} → s ≡ get_or ls from 0 → Sought qs ls from q from s
  sought_start e = record { inside = h.inside; here = e; chain = rw e h.chain; same = rw e }

  module _ {at s : ℕ} (g : Sought qs ls from q at s) where
    pub sought_few : s < most_cells
    sought_few = chain_few ls s g.chain

    module _ (on : T (goes_on qs s q)) where
      at_s : Step ls most_cells s
      at_s = step ls most_cells s (goes-read qs s q on).0 g.chain

      pub sought_next : {s' : ℕ} → s' ≡ get_or ls (4 * s + 1) 0 → Sought qs ls from q (4 * s + 1) s'
      sought_next e = rw e (record {
        inside = omega (arith, sought_few, h.room);
        here = refl;
        chain = at_s.rest;
        same = sym (seek-goes_on qs q at s (line_of ls (link ls s 1)) (goes-read qs s q on).1) ∙ ap (seek qs q at) (sym at_s.is) ∙ g.same;
      })

      pub sought_less : {s' : ℕ} → s' ≡ get_or ls (4 * s + 1) 0 → length (line_of ls s') < length (line_of ls s)
      sought_less e = rw (e, at_s.is) (omega arith)

    pub sought_end : ¬ T (goes_on qs s q) → at ≡ seek qs q from (line_of ls (get_or ls from 0))
    sought_end off = go s refl
      where
        go : (x : ℕ) → s ≡ x → at ≡ seek qs q from (line_of ls (get_or ls from 0))
        go zero e = sym (seek-none qs q at) ∙ ap (seek qs q at) (sym (ap (line_of ls) e ∙ spell-none ls most_cells)) ∙ g.same
        go (suc m) e =
            let p : 0 < s = omega arith in
            sym (seek-stops qs q at s (line_of ls (link ls s 1)) (stays_read qs s q off p)) ∙ ap (seek qs q at) (sym (step ls most_cells s p g.chain).is) ∙ g.same

-- ---- the walk along the children of f: it is at s, which is number k
pub record Numbered (ls₀ : List ℕ) (f : ℕ) (ls : List ℕ) (s k : ℕ) : Type 0 where
  pub long : length ls ≡ length ls₀
  pub chain : Chain ls s (line_of ls s)
  pub same : numbered ls k (line_of ls s) ≡ numbered ls₀ 0 (kids ls₀ f)
  pub sum : k + length (line_of ls s) ≡ length (kids ls₀ f)

-- a place alters no chain
pub spell-other : (ls : List ℕ) (q v : ℕ) → ((x : ℕ) → q ≢ 4 * x + 1) → (k s : ℕ) → spell (set ls q v) k s ≡ spell ls k s
unfolding spell
spell-other ls q v h zero s = refl
spell-other ls q v h (suc k) zero = refl
spell-other ls q v h (suc k) (suc m) =
    let e : link (set ls q v) (suc m) 1 ≡ link ls (suc m) 1 = get_or-set_other ls q (4 * suc m + 1) v 0 (λ z. h (suc m) (sym z)) in
    rw (e, spell-other ls q v h k (link ls (suc m) 1))

numbered-cons : (ls : List ℕ) (k s : ℕ) (l : List ℕ) → numbered ls k (s ∷ l) ≡ numbered (set ls (4 * s + 2) k) (k + 1) l
unfolding numbered
numbered-cons ls k s l = refl

numbered-none : (ls : List ℕ) (k : ℕ) → numbered ls k [] ≡ ls
unfolding numbered
numbered-none ls k = refl

module _ (ls₀ : List ℕ) (f : ℕ) (h : Numbering ls₀ f) where
  pub numbered-start : {s : ℕ} → s ≡ head ls₀ f → Numbered ls₀ f ls₀ s 0
  numbered-start e = record { long = refl; chain = rw e h.chain; same = rw e; sum = rw (e, zero-add) refl }

  module _ {ls : List ℕ} {s k : ℕ} (g : Numbered ls₀ f ls s k) where
    pub number_low : k ≤ most_cells
    number_low = omega (arith, g.sum, spell-length ls₀ most_cells (head ls₀ f))

    pub number_few : s < most_cells
    number_few = chain_few ls s g.chain

    module _ (p : 0 < s) where
      on : Step ls most_cells s
      on = step ls most_cells s p g.chain

      new : List ℕ
      new = set ls (4 * s + 2) k

      same_line : (x : ℕ) → line_of new x ≡ line_of ls x
      unfolding new
      same_line x = spell-other ls (4 * s + 2) k (λ y. omega arith) most_cells x

      next-is : link new s 1 ≡ link ls s 1
      unfolding new
      next-is = let e : 4 * s + 1 ≢ 4 * s + 2 = omega arith in get_or-set_other ls (4 * s + 2) (4 * s + 1) k 0 e

      pub numbered_next : {s' : ℕ} → s' ≡ get_or (set ls (4 * s + 2) k) (4 * s + 1) 0 → Numbered ls₀ f (set ls (4 * s + 2) k) s' (k + 1)
      unfolding new
      numbered_next e =
          let z = e ∙ next-is in
          rw (z) (record {
            long = simp length-set g.long;
            chain = rw (same_line (link ls s 1)) (chain-other ls (4 * s + 2) k (link ls s 1) (line_of ls (link ls s 1)) (λ x m. omega arith) on.rest);
            same = rw (same_line (link ls s 1)) (sym (numbered-cons ls k s (line_of ls (link ls s 1))) ∙ ap (numbered ls k) (sym on.is) ∙ g.same);
            sum = rw (same_line (link ls s 1)) (let z = ap length on.is in omega (arith, g.sum));
          })

      pub numbered_less : {s' : ℕ} → s' ≡ get_or (set ls (4 * s + 2) k) (4 * s + 1) 0 → length (line_of (set ls (4 * s + 2) k) s') < length (line_of ls s)
      unfolding new
      numbered_less e = rw (e ∙ next-is, same_line (link ls s 1), on.is) (omega arith)

    pub numbered-end : ¬ (0 < s) → set ls (4 * f + 3) k ≡ number_one ls₀ f
    numbered-end n =
        let z : s ≡ 0 = omega arith in
        let none : line_of ls s ≡ [] = rw z (spell-none ls most_cells) in
        let e1 : ls ≡ numbered ls₀ 0 (kids ls₀ f) = sym (numbered-none ls k) ∙ ap (numbered ls k) (sym none) ∙ g.same in
        let e2 : k ≡ length (kids ls₀ f) = omega (arith, g.sum, ap length none) in
        rw (e1, e2)

-- ---- lengths
pub chain_length : (fs qs ls : List ℕ) (k i : ℕ) → length (chained fs qs ls k i) ≡ length ls
unfolding chained
chain_length fs qs ls zero i = refl
chain_length fs qs ls (suc k) i = simp length-set (chain_length fs qs ls k (suc i))

pub numbered-length : (ls : List ℕ) (k : ℕ) (l : List ℕ) → length (numbered ls k l) ≡ length ls
unfolding numbered
numbered-length ls k [] = refl
numbered-length ls k (s ∷ l) = numbered-length (set ls (4 * s + 2) k) (k + 1) l ∙ length-set ls (4 * s + 2) k

pub number-length : (ms : List ℕ) (f : ℕ) {ns : List ℕ} → ns ≡ number_one ms f → length ns ≡ length ms
number-length ms f e = rw e (length-set (numbered ms 0 (kids ms f)) (4 * f + 3) (length (kids ms f)) ∙ numbered-length ms 0 (kids ms f))

pub count-length : (ls : List ℕ) (k : ℕ) → length (counted ls k) ≡ length ls
unfolding counted
count-length ls zero = refl
count-length ls (suc k) = simp (length-set, numbered-length) (count-length ls k)

pub placed-length : (ks ls : List ℕ) (k : ℕ) → length (placed ks ls k) ≡ length ls
unfolding placed
placed-length ks ls zero = refl
placed-length ks ls (suc k) = simp length-set (placed-length ks ls k)

-- ---- one turn of each loop over the cells
chain-step : (fs qs ls : List ℕ) (n c : ℕ) → 0 < c → c < n → chained fs qs ls (n - c) c ≡ chain_one fs qs (chained fs qs ls (n - (c + 1)) (c + 1)) c
unfolding chained
chain-step fs qs ls n c l lt =
    let e : n - c ≡ suc (n - (c + 1)) = omega arith in
    rw (e, add-one)

pub chain_more : (fs qs ls : List ℕ) (n c : ℕ) {ms : List ℕ} {p q r : ℕ} → 1 < c → c ≤ n → ms ≡ chained fs qs ls (n - c) c → p ≡ up fs (c - 1) → q ≡ get_or qs (c - 1) 0
    → r ≡ seek qs q (4 * p) (kids ms p) → link_in ms (c - 1) r ≡ chained fs qs ls (n - (c - 1)) (c - 1)
chain_more fs qs ls n c l le e ep eq er =
    let z : c - 1 + 1 ≡ c = omega arith in
    rw (er, eq, ep, e) (sym (chain-step fs qs ls n (c - 1) (omega arith) (omega arith) ∙ rw z))

pub count-more : (ls : List ℕ) (c : ℕ) {ms ns : List ℕ} → ms ≡ counted ls c → ns ≡ number_one ms c → ns ≡ counted ls (c + 1)
unfolding counted
count-more ls c e en = rw (add-one, en, e)

-- the cells from d on still have their numbers
placed-later : (ks ls : List ℕ) (d c : ℕ) → d ≤ c → link (placed ks ls d) c 3 ≡ link ls c 3
unfolding placed
placed-later ks ls zero c l = refl
placed-later ks ls (suc d) c l = let ne : 4 * c + 3 ≢ 4 * d + 3 = omega arith in rw get_or-set_other (placed-later ks ls d c (omega arith))

pub placed-more : (ks ls : List ℕ) (c : ℕ) {ms : List ℕ} {k q v : ℕ} → ms ≡ placed ks ls c → k ≡ get_or ks c 0 → q ≡ link ms c 3 → v ≡ appointed k q → set ms (4 * c + 3) (v - 1) ≡ placed ks ls (c + 1)
unfolding placed
placed-more ks ls c e ek eq ev = rw (add-one, ev, ek, eq, e, placed-later ks ls c c (omega arith))

pub placed_small : (ks ls : List ℕ) (n c : ℕ) {ms : List ℕ} {q : ℕ} → Appointing ks n ls → c < n → ms ≡ placed ks ls c → q ≡ link ms c 3 → q ≤ most_cells
placed_small ks ls n c h i e eq = rw (eq, e, placed-later ks ls c c (omega arith)) (h.low c i)

pub appointed_small : (kind k : ℕ) → k ≤ most_cells → (1 ≤ appointed kind k) × (appointed kind k ≤ most_cells)
appointed_small kind k l = let h = appointed-within kind k in (omega arith, omega arith)

pub links-found : (fs ks qs ls : List ℕ) (n : ℕ) {l₁ l₂ l₃ : List ℕ} → l₁ ≡ chained fs qs ls (n - 1) 1 → l₂ ≡ counted l₁ n → l₃ ≡ placed ks l₂ n → l₃ ≡ links_of fs ks qs n ls
unfolding links_of
links-found fs ks qs ls n e₁ e₂ e₃ = cc
