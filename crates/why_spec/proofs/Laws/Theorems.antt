-- Laws of the definitions in specs/Links.antt and specs/Search.antt, over our sheet. Assumes nothing.
use Rattle.std.specs.Prelude.{ℕ, ◌≤◌, ◌<◌, List, Bool, ℤ, ◌+ℤ◌, ◌≤ℤ◌}
use Rattle.std.proofs.Math.Path.{◌≡◌, refl}
use Rattle.std.proofs.Math.Bool.{true, false, cond}
use Rattle.std.proofs.Common.{arith}
use Rattle.std.proofs.Math.ListN.{length}
use Rattle.whole.proofs.Laws.Whole.{whole}
use Rattle.whole.proofs.Laws.Says.{is_true}
use Rattle.plan.specs.Lists.{from, some}
use Rattle.plan.proofs.Laws.Lists.{Some, some_read, says_some}
use Rattle.plan.specs.Plan.{Table, Is, Sound}
use Rattle.plan.proofs.Laws.Siblings.{next-is}
use Rattle.rules.specs.Placement.{Placement}
use Rattle.rules.specs.Rules.{S1, Keeps}
use Rattle.contours.specs.Sheet.{sheet}
use Rattle.least.proofs.Theorems.{sheet_keeps, sheet-least}
use Rattle.why_spec.specs.Measures.{Measure, extent, Demanded}
use Rattle.why_spec.specs.Links.{Link, Justified, Chain, adds_up, Reason, Certifies, Taut}
use Rattle.why_spec.specs.Search.{because, no_reason, closes, reason, why}
use Rattle.why_spec.proofs.Laws.Measures.{Measurable, width_is, left_is, right_is, between_is, across-on, leftward-on, rightward-on, between-on}
use Rattle.why_spec.proofs.Laws.Links as links
use Rattle.why_spec.proofs.Laws.Trail as trail
use Rattle.why_spec.proofs.Laws.Certified as certified
use Rattle.why_spec.proofs.Laws.Same as same

module _ (t : Table) (some_cell : 1 ≤ length t) (sound : Sound t) (al : ℕ) where
  module _ (p : Placement) where
    pub link_true : Keeps t p al → (l : Link) → Justified t al l → (p.x l.from +ℤ l.apart) ≤ℤ p.x l.to
    link_true = links.link_true t sound al p

    pub links-enough : S1 t p → ((l : Link) → Justified t al l → (p.x l.from +ℤ l.apart) ≤ℤ p.x l.to) → Keeps t p al
    links-enough = links.links-enough t sound al p

    pub chain_bounds : Keeps t p al → (c : ℕ) (ls : List Link) (e : ℕ) → Chain t al c ls e → (p.x c +ℤ adds_up ls) ≤ℤ p.x e
    chain_bounds = links.chain_bounds t sound al p

    pub reason-least : Keeps t p al → (μ : Measure) (w : ℤ) (r : Reason) → Certifies t al μ w r → w ≤ℤ extent μ p
    reason-least k μ = certified.certified_bounds t al μ p sound k

  keeps : Keeps t (sheet t al) al
  keeps = sheet_keeps t some_cell sound al

  pub demanded_on : {μ : Measure} → Demanded t μ → Measurable t μ
  demanded_on Demanded.the_width = across-on t some_cell
  demanded_on (Demanded.the_left c i) = leftward-on t sound c i
  demanded_on (Demanded.the_right c i) = rightward-on t sound c i
  demanded_on (Demanded.the_distance u v n) = let (i, j) = next-is t u v n in between-on t u v i j

  -- demand 3
  little : {μ : Measure} → Demanded t μ → (q : Placement) → Keeps t q al → extent μ (sheet t al) ≤ℤ extent μ q
  little Demanded.the_width q k = rw (width_is t (sheet t al), width_is t q) (sheet-least t some_cell sound al q k).wide
  little (Demanded.the_left c i) q k = rw (left_is t (sheet t al) c, left_is t q c) ((sheet-least t some_cell sound al q k).left c i)
  little (Demanded.the_right c i) q k = rw (right_is t (sheet t al) c, right_is t q c) ((sheet-least t some_cell sound al q k).right c i)
  little (Demanded.the_distance u v n) q k = rw (between_is (sheet t al) u v, between_is q u v) ((sheet-least t some_cell sound al q k).apart u v n)

  module _ (μ : Measure) (d : Demanded t μ) where
    hit : Some (closes t al μ (sheet t al)) (from 0 (length t))
    hit = certified.hits t al μ (sheet t al) sound keeps (demanded_on d) some_cell (little d)

    pub reason-found : Certifies t al μ (extent μ (sheet t al)) (reason t al μ (sheet t al))
    reason-found = trail.reason_certifies t al μ (sheet t al) hit

    pub reason-seen : (r : Reason) → Certifies t al μ (extent μ (sheet t al)) r → Taut μ (sheet t al) r
    reason-seen = certified.certified_taut t al μ (sheet t al) sound keeps

    pub reason-fewest : (r : Reason) → Certifies t al μ (extent μ (sheet t al)) r → length (reason t al μ (sheet t al)).links ≤ length r.links
    reason-fewest = certified.reason-fewest t al μ (sheet t al) sound keeps (demanded_on d) hit

    pub reason_short : length (reason t al μ (sheet t al)).links < length t
    reason_short = trail.reason_short t al μ (sheet t al) hit

    pub why-found : (p : Placement) → Keeps t p al → extent μ p ≤ℤ extent μ (sheet t al) → why t al μ p ≡ because (reason t al μ p)
    unfolding why
    why-found p k h =
        let s = certified.hits t al μ p sound k (demanded_on d) some_cell (λ q j. omega (whole, little d q j)) in
        rw (is_true (says_some (closes t al μ p) (from 0 (length t))) s)

    pub certified_least : (p : Placement) → Keeps t p al → (r : Reason) → Certifies t al μ (extent μ p) r → extent μ p ≡ extent μ (sheet t al)
    certified_least p k r c = omega (whole, little d p k, reason-least (sheet t al) keeps μ (extent μ p) r c)

    pub why-same : (p q : Placement) → ((c : ℕ) → Is t c → p.x c ≡ q.x c) → why t al μ p ≡ why t al μ q
    why-same p q = same.why-same t al μ p q (demanded_on d) some_cell

    pub reason-same : (p q : Placement) → ((c : ℕ) → Is t c → p.x c ≡ q.x c) → reason t al μ p ≡ reason t al μ q
    reason-same p q = same.reason-same t al μ p q (demanded_on d) some_cell

  -- ---- of anyone's placement
  pub why-because : (μ : Measure) (p : Placement) (r : Reason) → why t al μ p ≡ because r → Certifies t al μ (extent μ p) r × (length r.links < length t)
  unfolding why
  why-because μ p r e = go (some (closes t al μ p) (from 0 (length t))) refl e
    where
      go : (b : Bool) → some (closes t al μ p) (from 0 (length t)) ≡ b → cond b (because (reason t al μ p)) no_reason ≡ because r → Certifies t al μ (extent μ p) r × (length r.links < length t)
      go true h e =
          let s : Some (closes t al μ p) (from 0 (length t)) = some_read _ _ (rw h tt) in
          let q : reason t al μ p ≡ r = cc in
          rw (← q) (trail.reason_certifies t al μ p s, trail.reason_short t al μ p s)
      go false h e = absurd (let z : ◌≡◌ {A = ℕ} 0 1 = cc in omega arith)
