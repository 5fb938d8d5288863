-- The order of finishing, along the tree. Nothing that a reader must believe stands here. Assumes nothing.
use Rattle.std.specs.Prelude.{◌≡◌, refl, List, [], ◌∷◌, ◌++◌, ℕ, zero, suc, length}
use Rattle.std.proofs.Common.{append_assoc}
use Rattle.contours.proofs.Laws.Forest.{Forest, none, tree, forest}
use Rattle.plan.specs.Plan.{Table, children}
use Rattle.contours.proofs.Laws.Forest as forests
use Rattle.walk.specs.Preorder.{in_turn}
use Rattle.finishing_order.specs.Postorder.{postorder_to, postorder}

-- the cells of a forest in their order
unfoldable pub post : Forest → List ℕ
post none = []
post (tree c ss r) = post ss ++ (c ∷ post r)

-- the order is that of the forest
post-each : (t : Table) (d : ℕ) (f : ℕ → Forest) → ((c : ℕ) → postorder_to t d c ≡ post (f c) ++ (c ∷ [])) → (cs : List ℕ) → in_turn (postorder_to t d) cs ≡ post (forests.each f cs)
unfolding in_turn post forests.each
post-each t d f h [] = refl
post-each t d f h (c ∷ cs) = rw (h c, post-each t d f h cs) (append_assoc (post (f c)) (c ∷ []) (post (forests.each f cs)))

post-below : (t : Table) (d c : ℕ) → postorder_to t d c ≡ post (forest t d c) ++ (c ∷ [])
unfolding postorder_to forest post
post-below t zero c = refl
post-below t (suc d) c = rw (post-each t d (forest t d) (post-below t d) (children t c))

pub post-all : (t : Table) → postorder t ≡ post (forest t (length t) 0) ++ (0 ∷ [])
unfolding postorder
post-all t = post-below t (length t) 0
