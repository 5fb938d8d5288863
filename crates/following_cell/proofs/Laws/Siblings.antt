-- What the links say of the children. Assumes nothing.
use Rattle.std.specs.Prelude.{◌≡◌, List}
use Rattle.std.proofs.Common.{◌∙◌, ne_eqb}
use Prim.Native.Nat.{ℕ, zero, suc, ◌+◌, ◌-◌, ◌*◌, ◌≤◌, ◌<◌}
use native.Mathlib.Omega.{arith}
use Rattle.std.proofs.Math.Nat.{add-zero}
use Rattle.std.proofs.Math.Decide.{dec_lt}
use Rattle.std.proofs.Math.ListN.{length, get_or, get_or-eq_default}
use Rattle.plan.proofs.Laws.Lists.{at_get_or}
use Rattle.plan.specs.Plan.{Table, Is, children}
use Rattle.plan.proofs.Laws.Plan.{child-read}
use Rattle.plan.specs.Fit.{Fit}
use Rattle.links.specs.Links.{Links, link}
use Rattle.following_cell.specs.Opening.{later, hops, Row, Cell}

module _ (t : Table) (fit : Fit t) (ls : List ℕ) (links : Links t ls) where
  pub room : (s : ℕ) → Is t s → 4 * s + 4 ≤ length ls
  room s i = omega (arith, fit.not_too_many, links.size)

  child-room : (f i : ℕ) → 4 * get_or (children t f) i 0 + 4 ≤ length ls
  child-room f i = go (dec_lt i (length (children t f)))
    where
      go : Dec (i < length (children t f)) → 4 * get_or (children t f) i 0 + 4 ≤ length ls
      go (yes l) = room _ (child-read t f i _ (at_get_or (children t f) i 0 l)).is
      go (no l) = rw (get_or-eq_default (children t f) 0 {n = i} (omega arith)) (omega (arith, links.size))

  pub later-is : (f i : ℕ) → later ls (get_or (children t f) i 0) ≡ get_or (children t f) (suc i) 0
  unfolding later
  later-is f i = go (dec_lt i (length (children t f)))
    where
      go : Dec (i < length (children t f)) → later ls (get_or (children t f) i 0) ≡ get_or (children t f) (suc i) 0
      go (yes l) =
          let a = at_get_or (children t f) i 0 l in
          let z : get_or (children t f) i 0 ≡ 0 → ⊥ = λ e. omega (arith, (child-read t f i _ a).low) in
          rw (ne_eqb _ _ z, later) (links.next f i _ a)
      go (no l) = rw (get_or-eq_default (children t f) 0 {n = i} (omega arith), get_or-eq_default (children t f) 0 {n = suc i} (omega arith))

  pub hops_are : (f a i : ℕ) → hops ls (get_or (children t f) i 0) a ≡ get_or (children t f) (i + a) 0
  unfolding hops
  hops_are f zero i = rw add-zero
  hops_are f (suc a) i =
      let e : i + suc a ≡ suc i + a = omega arith in
      rw (later-is f i, e) (hops_are f a (suc i))

pub row_room : {ls : List ℕ} {n : ℕ} → Row ls n → 4 * n + 4 ≤ length ls
row_room {ls} {n} r = rw r.at (child-room r.table r.fit ls r.links r.parent r.place)

pub row-later : {ls : List ℕ} {n m : ℕ} → Row ls n → m ≡ later ls n → Row ls m
row-later {ls} {n} {m} r e =
    record {
      table = r.table;
      fit = r.fit;
      links = r.links;
      parent = r.parent;
      place = suc r.place;
      at = e ∙ rw r.at (later-is r.table r.fit ls r.links r.parent r.place);
    }

pub hops-more : (ls : List ℕ) (s m i v : ℕ) → m ≡ later ls s → 0 < i → hops ls s i ≡ v → hops ls m (i - 1) ≡ v
hops-more ls s m zero v e l h = absurd (omega arith)
hops-more ls s m (suc i) v e l h = go
  where
    q : suc i - 1 ≡ i
    q = omega arith

    go : hops ls m (suc i - 1) ≡ v
    go = rw (q, e) (unfold hops in h)

pub hops-none : (ls : List ℕ) (s i v : ℕ) → i ≡ 0 → hops ls s i ≡ v → s ≡ v
hops-none ls s i v e h = unfold hops in (rw e at h)

-- a cell of the table: its links, and its first child
pub cell_room : {ls : List ℕ} {s : ℕ} → Cell ls s → 4 * s + 4 ≤ length ls
cell_room {ls} {s} c = room c.table c.fit ls c.links s c.is

pub cell-first : {ls : List ℕ} {s n : ℕ} → Cell ls s → n ≡ link ls s 0 → Row ls n
cell-first {ls} {s} c e = record { table = c.table; fit = c.fit; links = c.links; parent = s; place = 0; at = e ∙ c.links.first s c.is }
