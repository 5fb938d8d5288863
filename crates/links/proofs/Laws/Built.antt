-- The links that are built are those of the table. Assumes nothing.
use Rattle.std.specs.Prelude.{◌≡◌, ◌≢◌, List, [], ◌∷◌, get_or, set, T}
use Rattle.std.proofs.Math.Path.{refl}
use Rattle.std.proofs.Common.{◌∙◌, ap, sym, length-set, get_or-set_same, eqb→eq, eq-eqb, ne_eqb}
use Prim.Native.Nat.{ℕ, zero, suc, pred, ◌+◌, ◌-◌, ◌*◌, ◌≤◌, ◌<◌}
use native.Mathlib.Omega.{arith}
use Rattle.std.proofs.Math.Nat.{zero-add}
use Rattle.std.proofs.Math.Decide.{ℕ_discrete}
use Rattle.std.proofs.Math.ListN.{length}
use Rattle.std.proofs.Math.Seq.{get_or-set_other}
use Rattle.std.proofs.Math.Dec.{eqb}
use Rattle.plan.specs.Limits.{most_cells}
use Rattle.plan.specs.Lists.{At, from, keep, mem, sort, insert}
use Rattle.plan.proofs.Laws.Lists.{at_mem, mem-here, mem_there, keep-read, keep_short, from-read}
use Rattle.plan.proofs.Laws.Sort.{Ordered, before-once, sort-length, sort-read, sort_ordered, sort-same}
use Rattle.plan.specs.Plan.{Table, parent, rank, filed, children, appointed}
use Rattle.links.specs.Links.{link, Links}
use Rattle.links.specs.Chain.{Chain, seek, link_in}
use Rattle.links.proofs.Laws.Chain.{Off, spell-length, chain-spell, chain_first, chain_next, chain-insert, Where, seek_where, in_other}
use Rattle.links.specs.Build.{up, head, kids, chain_one, chained, numbered, counted, placed, links_of, Building, Seeking, Numbering, Counting, Appointing, Linking, Reads, Built}
use Rattle.links.proofs.Laws.Build.{chain_length, numbered-length, count-length, placed-length}

-- the children of f among d cells from i on: in file order, and in order
abbrev kin : List ℕ → ℕ → ℕ → ℕ → List ℕ
kin fs f d i = keep (λ s. eqb (up fs s) f) (from i d)

abbrev by : List ℕ → ℕ → ℕ
by qs s = get_or qs s 0

abbrev line : List ℕ → List ℕ → ℕ → ℕ → ℕ → List ℕ
line fs qs f d i = sort (by qs) (kin fs f d i)

module _ (fs qs : List ℕ) where
  line-none : (f i : ℕ) → line fs qs f 0 i ≡ []
  unfolding keep from sort
  line-none f i = refl

  line-hit : (f d i : ℕ) → up fs i ≡ f → line fs qs f (suc d) i ≡ insert (by qs) i (line fs qs f d (suc i))
  unfolding keep from sort
  line-hit f d i e = rw (eq-eqb (up fs i) f e)

  line_miss : (f d i : ℕ) → up fs i ≢ f → line fs qs f (suc d) i ≡ line fs qs f d (suc i)
  unfolding keep from
  line_miss f d i e = rw (ne_eqb (up fs i) f e)

  line_short : (f d i : ℕ) → length (line fs qs f d i) ≤ d
  line_short f d i = rw (sort-length (by qs) (kin fs f d i)) (keep_short (λ s. eqb (up fs s) f) i d)

  record Of (f d i s : ℕ) : Type 0 where
    low : i ≤ s
    high : s < i + d
    parent_is : up fs s ≡ f

  line_read : (f d i s : ℕ) → T (mem s (line fs qs f d i)) → Of f d i s
  line_read f d i s m =
      let k = keep-read (λ s. eqb (up fs s) f) (from i d) s (sort-read (by qs) (kin fs f d i) s m) in
      let b = from-read i d s k.there in
      record { low = b.0; high = b.1; parent_is = eqb→eq (up fs s) f k.passes }

  -- the children of a table with these parents
  kin-is : (t : Table) (f d i : ℕ) → ((c : ℕ) → i ≤ c → c < i + d → parent t c ≡ up fs c) → keep (λ s. eqb (parent t s) f) (from i d) ≡ kin fs f d i
  unfolding keep from
  kin-is t f zero i h = refl
  kin-is t f (suc d) i h = rw (h i (omega arith) (omega arith), kin-is t f d (suc i) (λ c p q. h c (omega arith) (omega arith)))

  line_ordered : (f d i : ℕ) → Ordered (by qs) (line fs qs f d i)
  line_ordered f d i = sort_ordered (by qs) (λ s. eqb (up fs s) f) i d

-- ---- chaining, from links of zeros
module _ (fs qs : List ℕ) (n : ℕ) (ls : List ℕ) (h : Building fs qs n ls) where
  -- once the d cells from i on are linked in
  abbrev pub Chains : ℕ → ℕ → Type 0
  Chains d i = (f : ℕ) → f < n → Chain (chained fs qs ls d i) (head (chained fs qs ls d i) f) (line fs qs f d i)

  -- the cell i is linked in
  module _ (d i : ℕ) (p : 0 < i) (l : i + suc d ≤ n) (ih : Chains d (suc i)) where
    abbrev L : List ℕ
    L = chained fs qs ls d (suc i)

    abbrev f : ℕ
    f = up fs i

    room : 4 * most_cells ≤ length L
    room = rw (chain_length fs qs ls d (suc i)) h.room

    f-is : f < i
    f-is = h.before i p (omega arith)

    abbrev K : List ℕ
    K = line fs qs f d (suc i)

    kids_are : kids L f ≡ K
    kids_are = chain-spell L most_cells (head L f) K (ih f (omega (arith, f-is))) (omega (arith, line_short fs qs f d (suc i), h.few))

    abbrev r : ℕ
    r = seek qs (get_or qs i 0) (4 * f) K

    -- the siblings to come later are other cells than i
    off_i : (g : ℕ) → Off (4 * i + 1) (line fs qs g d (suc i))
    off_i g x m = let o = (line_read fs qs g d (suc i) x m).low in omega arith

    own : Chain (link_in L i r) (head (link_in L i r) f) (insert (by qs) i K)
    own =
        chain-insert L qs i p (omega (arith, h.few)) room (4 * f) K (omega (arith, room, f-is, h.few)) (omega arith) (λ x m. omega arith) (off_i f) (line_ordered fs qs f d (suc i))
        (ih f (omega (arith, f-is)))

    -- the children of another cell: the link is not one of theirs
    module _ (g : ℕ) (gl : g < n) (ne : f ≢ g) where
      apart : (x : ℕ) → T (mem x (line fs qs g d (suc i))) → Where qs (get_or qs i 0) (4 * f) K r → r ≢ 4 * x + 1
      apart x m (Where.head e) z = absurd (omega arith)
      apart x m (Where.after y k e) z =
          let same : y ≡ x = omega arith in
          ne (sym (line_read fs qs f d (suc i) y k).parent_is ∙ ap (up fs) same ∙ (line_read fs qs g d (suc i) x m).parent_is)

      not_head : Where qs (get_or qs i 0) (4 * f) K r → 4 * g ≢ r
      not_head (Where.head e) z = ne (omega arith)
      not_head (Where.after y k e) z = absurd (omega arith)

      head-same : head (link_in L i r) g ≡ head L g
      head-same =
          let e1 : 4 * g ≢ 4 * i + 1 = omega arith in
          get_or-set_other (set L (4 * i + 1) (get_or L r 0)) r (4 * g) i 0 (not_head (seek_where qs (get_or qs i 0) (4 * f) K)) ∙ get_or-set_other L (4 * i + 1) (4 * g) (get_or L r 0) 0 e1

      other : Chain (link_in L i r) (head (link_in L i r) g) (line fs qs g d (suc i))
      other = rw head-same (in_other L i r (head L g) (line fs qs g d (suc i)) (λ x m. apart x m (seek_where qs (get_or qs i 0) (4 * f) K)) (off_i g) (ih g gl))

    more : (g : ℕ) → g < n → Chain (chain_one fs qs L i) (head (chain_one fs qs L i) g) (line fs qs g (suc d) i)
    more g gl = rw kids_are (go (ℕ_discrete f g))
      where
        go : Dec (f ≡ g) → Chain (link_in L i r) (head (link_in L i r) g) (line fs qs g (suc d) i)
        go (yes e) = rw (line-hit fs qs g d i e, ← e) own
        go (no e) = rw (line_miss fs qs g d i e) (other g gl e)

  pub chains : (d i : ℕ) → 0 < i → i + d ≤ n → Chains d i
  unfolding chained
  chains zero i p l f fl = rw (line-none fs qs f i) (h.clear (4 * f))
  chains (suc d) i p l f fl = more d i p l (chains d (suc i) (omega arith) (omega arith)) f fl

  -- what the walk to the link of the next cell needs
  pub seeking : (c : ℕ) {ms : List ℕ} {p : ℕ} → 1 < c → c ≤ n → ms ≡ chained fs qs ls (n - c) c → p ≡ up fs (c - 1) → Seeking qs ms (4 * p)
  seeking c {ms = ms} {p = p} l le e ep =
      let fi : p < n = omega (arith, h.before (c - 1) (omega arith) (omega arith)) in
      let ch = chains (n - c) c (omega arith) (omega arith) p fi in
      let k = chain-spell (chained fs qs ls (n - c) c) most_cells _ (line fs qs p (n - c) c) ch (omega (arith, line_short fs qs p (n - c) c, h.few)) in
      rw e
      (record {
        ranks = h.ranks;
        room = rw (chain_length fs qs ls (n - c) c) h.room;
        inside = rw (chain_length fs qs ls (n - c) c) (omega (arith, h.room, h.few));
        chain = rw k ch;
      })

-- ---- numbering: of links whose chains are these lists
-- a chain stays where only places and numbers are written
numbered_aside : (ls : List ℕ) (k : ℕ) (l : List ℕ) (q : ℕ) → ((x : ℕ) → q ≢ 4 * x + 2) → get_or (numbered ls k l) q 0 ≡ get_or ls q 0
unfolding numbered
numbered_aside ls k [] q h = refl
numbered_aside ls k (s ∷ l) q h = numbered_aside (set ls (4 * s + 2) k) (k + 1) l q h ∙ get_or-set_other ls (4 * s + 2) q k 0 (h s)

numbered-off : (ls : List ℕ) (k : ℕ) (l : List ℕ) (x : ℕ) → (T (mem x l) → ⊥) → link (numbered ls k l) x 2 ≡ link ls x 2
unfolding numbered
numbered-off ls k [] x h = refl
numbered-off ls k (s ∷ l) x h =
    let e : 4 * x + 2 ≢ 4 * s + 2 = λ z. h (mem-here x s l (omega arith)) in
    numbered-off (set ls (4 * s + 2) k) (k + 1) l x (λ m. h (mem_there x s l m)) ∙ get_or-set_other ls (4 * s + 2) (4 * x + 2) k 0 e

numbered-at : (f : ℕ → ℕ) (ls : List ℕ) (k : ℕ) (l : List ℕ) → Ordered f l → ((x : ℕ) → T (mem x l) → 4 * x + 2 < length ls) → (i x : ℕ) → At l i x → link (numbered ls k l) x 2 ≡ k + i
unfolding numbered
numbered-at f ls k [] o r i x h = absurd h
numbered-at f ls k (s ∷ l) o r zero x h =
    rw h
    (numbered-off (set ls (4 * s + 2) k) (k + 1) l s (λ m. before-once f s s (o.0 s m) refl) ∙ get_or-set_same ls (4 * s + 2) k 0 (r s (mem-here s s l refl)) ∙ (let z : k ≡ k + 0 = omega arith in z))
numbered-at f ls k (s ∷ l) o r (suc i) x h =
    let z : k + 1 + i ≡ k + suc i = omega arith in
    numbered-at f (set ls (4 * s + 2) k) (k + 1) l o.1 (λ y m. simp length-set (r y (mem_there y s l m))) i x h ∙ z

module _ (n : ℕ) (ls : List ℕ) (line : ℕ → List ℕ) (chain : (f : ℕ) → f < n → Chain ls (head ls f) (line f)) (short : (f : ℕ) → f < n → length (line f) ≤ most_cells) where
  -- the links that are no places and no numbers stay
  pub count_aside : (d q : ℕ) → ((x : ℕ) → q ≢ 4 * x + 2) → ((x : ℕ) → q ≢ 4 * x + 3) → get_or (counted ls d) q 0 ≡ get_or ls q 0
  unfolding counted
  count_aside zero q a b = refl
  count_aside (suc d) q a b =
      get_or-set_other (numbered (counted ls d) 0 (kids (counted ls d) d)) (4 * d + 3) q (length (kids (counted ls d) d)) 0 (b d)
      ∙ numbered_aside (counted ls d) 0 (kids (counted ls d) d) q a ∙ count_aside d q a b

  count_head : (d f : ℕ) → head (counted ls d) f ≡ head ls f
  count_head d f = count_aside d (4 * f) (λ x. omega arith) (λ x. omega arith)

  chain_same : (d s : ℕ) (l : List ℕ) → Chain ls s l → Chain (counted ls d) s l
  chain_same d s [] c = c
  chain_same d s (x ∷ l) c =
      record { is = c.is; some = c.some; few = c.few; rest = rw (count_aside d (4 * x + 1) (λ y. omega arith) (λ y. omega arith)) (chain_same d (link ls x 1) l c.rest) }

  pub count-chain : (d f : ℕ) → f < n → Chain (counted ls d) (head (counted ls d) f) (line f)
  count-chain d f l = rw (count_head d f) (chain_same d (head ls f) (line f) (chain f l))

  pub count-kids : (d f : ℕ) → f < n → kids (counted ls d) f ≡ line f
  count-kids d f l = chain-spell (counted ls d) most_cells _ (line f) (count-chain d f l) (short f l)

-- what the walk along the children of a cell needs
pub numbering : (n : ℕ) (ls : List ℕ) → Counting n ls → (c : ℕ) → c < n → {ms : List ℕ} → ms ≡ counted ls c → Numbering ms c
numbering n ls h c l e =
    let short : (f : ℕ) → f < n → length (kids ls f) ≤ most_cells = λ f l. spell-length ls most_cells (head ls f) in
    let same = count-kids n ls (kids ls) h.chains short c c l in
    rw e (record { is = omega (arith, h.few); room = rw (count-length ls c) h.room; chain = rw same (count-chain n ls (kids ls) h.chains short c c l) })

module _ (f₀ : ℕ → ℕ) (n : ℕ) (few : n ≤ most_cells) (ls : List ℕ) (room : 4 * most_cells ≤ length ls) (line : ℕ → List ℕ)
    (chain : (f : ℕ) → f < n → Chain ls (head ls f) (line f))
    (short : (f : ℕ) → f < n → length (line f) ≤ most_cells)
    (ordered : (f : ℕ) → Ordered f₀ (line f))
    (inside : (f x : ℕ) → T (mem x (line f)) → x < n)
    (apart : (f g x : ℕ) → T (mem x (line f)) → T (mem x (line g)) → f ≡ g) where
  -- the number of children
  pub count-is : (d f : ℕ) → d ≤ n → f < d → link (counted ls d) f 3 ≡ length (line f)
  unfolding counted
  count-is zero f l i = absurd (omega arith)
  count-is (suc d) f l i = rw (count-kids n ls line chain short d d (omega arith)) (go (ℕ_discrete f d) (count-is d f))
    where
      go : Dec (f ≡ d) → (d ≤ n → f < d → link (counted ls d) f 3 ≡ length (line f)) → link (set (numbered (counted ls d) 0 (line d)) (4 * d + 3) (length (line d))) f 3 ≡ length (line f)
      go (yes e) ih =
          rw e (get_or-set_same (numbered (counted ls d) 0 (line d)) (4 * d + 3) (length (line d)) 0 (simp (numbered-length, count-length) (omega (arith, room, few))))
      go (no e) ih =
          get_or-set_other (numbered (counted ls d) 0 (line d)) (4 * d + 3) (4 * f + 3) (length (line d)) 0 (omega arith)
          ∙ numbered_aside (counted ls d) 0 (line d) (4 * f + 3) (λ x. omega arith) ∙ ih (omega arith) (omega arith)

  -- the place
  pub place_is : (d f : ℕ) → d ≤ n → f < d → (i x : ℕ) → At (line f) i x → link (counted ls d) x 2 ≡ i
  unfolding counted
  place_is zero f l k i x h = absurd (omega arith)
  place_is (suc d) f l k i x h =
      rw (count-kids n ls line chain short d d (omega arith))
      (get_or-set_other (numbered (counted ls d) 0 (line d)) (4 * d + 3) (4 * x + 2) (length (line d)) 0 (omega arith) ∙ go (ℕ_discrete f d) (place_is d f))
    where
      go : Dec (f ≡ d) → (d ≤ n → f < d → (i x : ℕ) → At (line f) i x → link (counted ls d) x 2 ≡ i) → link (numbered (counted ls d) 0 (line d)) x 2 ≡ i
      go (yes e) ih =
          numbered-at f₀ (counted ls d) 0 (line d) (ordered d) (λ y m. rw (count-length ls d) (omega (arith, inside d y m, room, few))) i x (rw e at h) ∙ zero-add i
      go (no e) ih =
          numbered-off (counted ls d) 0 (line d) x (λ m. e (apart f d x (at_mem (line f) i x h) m)) ∙ ih (omega arith) (omega arith) i x h

-- ---- appointing leaves the other links alone
placed_keeps : (ks ms : List ℕ) (d q : ℕ) → ((c : ℕ) → q ≢ 4 * c + 3) → get_or (placed ks ms d) q 0 ≡ get_or ms q 0
unfolding placed
placed_keeps ks ms zero q a = refl
placed_keeps ks ms (suc d) q a = let e1 = a d in rw get_or-set_other (placed_keeps ks ms d q a)

placed-is : (ks ms : List ℕ) (d c : ℕ) → 4 * d ≤ length ms → c < d → link (placed ks ms d) c 3 ≡ appointed (get_or ks c 0) (link ms c 3) - 1
unfolding placed
placed-is ks ms zero c f l = absurd (omega arith)
placed-is ks ms (suc d) c f l = go (ℕ_discrete c d) (placed-is ks ms d c)
  where
    go : Dec (c ≡ d) → (4 * d ≤ length ms → c < d → link (placed ks ms d) c 3 ≡ appointed (get_or ks c 0) (link ms c 3) - 1) → link (placed ks ms (suc d)) c 3 ≡ appointed (get_or ks c 0) (link ms c 3) - 1
    go (yes e) ih =
        let lt : 4 * d + 3 < length (placed ks ms d) = simp placed-length (omega arith) in
        rw e (get_or-set_same (placed ks ms d) (4 * d + 3) _ 0 lt)
    go (no ne) ih =
        let ne' : 4 * c + 3 ≢ 4 * d + 3 = omega arith in
        get_or-set_other (placed ks ms d) (4 * d + 3) (4 * c + 3) _ 0 ne' ∙ ih (omega arith) (omega arith)

less_one : (x : ℕ) → x - 1 ≡ pred x
less_one x = omega arith

-- ---- the four links of each cell
module _ (fs ks qs : List ℕ) (n : ℕ) (ls : List ℕ) (h : Linking fs ks qs n ls) where
  abbrev M : List ℕ
  M = chained fs qs ls (n - 1) 1

  abbrev N : List ℕ
  N = counted M n

  g : Building fs qs n ls
  g = h.building

  abbrev all : ℕ → List ℕ
  all f = line fs qs f (n - 1) 1

  m-room : 4 * most_cells ≤ length M
  m-room = rw (chain_length fs qs ls (n - 1) 1) g.room

  m-chain : (f : ℕ) → f < n → Chain M (head M f) (all f)
  m-chain = chains fs qs n ls g (n - 1) 1 (omega arith) (omega (arith, g.some))

  m_short : (f : ℕ) → f < n → length (all f) ≤ most_cells
  m_short f l = omega (arith, line_short fs qs f (n - 1) 1, g.few)

  m_ordered : (f : ℕ) → Ordered (by qs) (all f)
  m_ordered f = line_ordered fs qs f (n - 1) 1

  m-inside : (f x : ℕ) → T (mem x (all f)) → x < n
  m-inside f x m = omega (arith, (line_read fs qs f (n - 1) 1 x m).high, g.some)

  m_apart : (f e x : ℕ) → T (mem x (all f)) → T (mem x (all e)) → f ≡ e
  m_apart f e x p q = sym (line_read fs qs f (n - 1) 1 x p).parent_is ∙ (line_read fs qs e (n - 1) 1 x q).parent_is

  n-chain : (d f : ℕ) → f < n → Chain (counted M d) (head (counted M d) f) (all f)
  n-chain d f l = count-chain n M all m-chain m_short d f l

  n-count : (f : ℕ) → f < n → link N f 3 ≡ length (all f)
  n-count f l = count-is (by qs) n g.few M m-room all m-chain m_short m_ordered m-inside m_apart n f (omega arith) l

  n-place : (f : ℕ) → f < n → (i x : ℕ) → At (all f) i x → link N x 2 ≡ i
  n-place f l = place_is (by qs) n g.few M m-room all m-chain m_short m_ordered m-inside m_apart n f (omega arith) l

  -- what the calls in turn need
  pub counting : {l₁ : List ℕ} → l₁ ≡ M → Counting n l₁
  counting e = rw e (record { few = g.few; room = m-room; chains = λ f l. rw (m-kids f l) (m-chain f l) })
    where
      m-kids : (f : ℕ) → f < n → kids M f ≡ all f
      m-kids f l = chain-spell M most_cells (head M f) (all f) (m-chain f l) (m_short f l)

  pub appointing : {l₁ l₂ : List ℕ} → l₁ ≡ M → l₂ ≡ counted l₁ n → Appointing ks n l₂
  appointing e₁ e₂ = rw (e₂, e₁) (record {
    few = g.few;
    kinds = h.kinds;
    room = rw (count-length M n) m-room;
    low = λ c l. rw (n-count c l) (m_short c l);
  })

  module _ (t : Table) (r : Reads t fs ks qs n) where
    filed_are : (f : ℕ) → filed t f ≡ kin fs f (n - 1) 1
    unfolding filed
    filed_are f =
        let z : pred (length t) ≡ n - 1 = omega (arith, r.size) in
        rw z (kin-is fs qs t f (n - 1) 1 (λ c p q. r.parent_of c (omega (arith, r.size, g.some))))

    children_are : (f : ℕ) → children t f ≡ all f
    unfolding children
    children_are f =
        rw (filed_are f) (sort-same (rank t) (by qs) (kin fs f (n - 1) 1) (λ x m.
        r.rank_of x (omega (arith, r.size, g.some, from-read 1 (n - 1) x (keep-read (λ s. eqb (up fs s) f) (from 1 (n - 1)) x m).there))))

    built : Links t (links_of fs ks qs n ls)
    unfolding links_of
    built =
        record {
          size = rw (placed-length ks N n, count-length M n) m-room;
          first = λ c i.
              let l : c < n = omega (arith, r.size) in
              let z : 4 * c + 0 ≡ 4 * c = omega arith in
              rw (children_are c, z) (placed_keeps ks N n (4 * c) (λ x. omega arith) ∙ chain_first N (head N c) (all c) (n-chain n c l));
          next = λ f i s a.
              let k : At (all f) i s = rw (children_are f) at a in
              rw (children_are f) (placed_keeps ks N n (4 * s + 1) (λ x. omega arith) ∙ chain_next N (head N f) (all f) (n-chain n f (above f i s k)) i s k);
          place_of = λ f i s a.
              let k : At (all f) i s = rw (children_are f) at a in
              placed_keeps ks N n (4 * s + 2) (λ x. omega arith) ∙ n-place f (above f i s k) i s k;
          appointed_of = λ c i.
              let l : c < n = omega (arith, r.size) in
              placed-is ks N n c (rw (count-length M n) (omega (arith, m-room, g.few))) l ∙ rw (n-count c l, ← children_are c, ← r.kind_of c i) (less_one _);
        }
      where
        above : (f i s : ℕ) → At (all f) i s → f < n
        above f i s k =
            let o = line_read fs qs f (n - 1) 1 s (at_mem (all f) i s k) in
            omega (arith, o.low, o.high, o.parent_is, g.before s o.low (omega (arith, o.high, g.some)), g.some)

pub links_are : (fs ks qs : List ℕ) (n : ℕ) (ls : List ℕ) → Linking fs ks qs n ls → {ls' : List ℕ} → ls' ≡ links_of fs ks qs n ls → Built fs ks qs n ls'
links_are fs ks qs n ls h e t r = rw e (built fs ks qs n ls h t r)
