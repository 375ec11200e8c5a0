-- Laws of the whole check: from the walk to the answer, and that no two answers satisfy the contract.
use Rattle.std.specs.Prelude.{ℕ, ◌≤◌, ◌<◌, ◌≡◌, List, [], ◌∷◌, Bool, false, length, Result, Ok, Err}
use Rattle.std.proofs.Common.{arith, ◌∙◌, ap, sym}
use Rattle.mode.specs.declared.Mode.{Mode}
use Rattle.utf8.specs.Laws.{encoded_unique}
use Rattle.utf8.specs.Rfc3629.{Encoding}
use Rattle.record.specs.Record.{count}
use Rattle.grammar.specs.Grammar.{root}
use Rattle.grammar.specs.Classes.{class_at, root_at}
use Rattle.tree.specs.Check.{Answer, Admitted, place, scan, malformed, longest, answer_in, ChecksIn}
use Rattle.tree.specs.declared.Refusal.{Refusal}
use Rattle.tree.specs.declared.Refusal.TheVariants.{Ends}
use Rattle.tree.specs.Walk.{refused as refusals, Walks, resumed}
use Rattle.tree.proofs.Bounds.{tree_short}
use Rattle.tree.proofs.Comes as weak
use Rattle.tree.proofs.Comes.{comes}

-- ---- from the walk of the root to the scan of all records
module _ (t x : List ℕ) (w : Result ℕ Refusal) (walked : Walks t x 0 (place 1 (class_at root_at) ∷ []) w) where
  scanned : scan t x (count t) 0 (place 1 root ∷ []) ≡ resumed t x w []
  scanned = weak.scanned t x w (comes walked)

module _ (t x : List ℕ) where
  pub refused : (e : Refusal) → Walks t x 0 (place 1 (class_at root_at) ∷ []) (Err e) → Err e ≡ scan t x (count t) 0 (place 1 root ∷ [])
  refused e w = weak.refused t x e (comes w)

  module _ (k : ℕ) (w : Walks t x 0 (place 1 (class_at root_at) ∷ []) (Ok k)) where
    -- the records that are left over are refused at the first
    pub left_over : k < count t → Err (Ends k) ≡ scan t x (count t) 0 (place 1 root ∷ [])
    left_over h = weak.left_over t x k (comes w) h

    pub all_filled : count t ≤ k → Admitted ≡ scan t x (count t) 0 (place 1 root ∷ [])
    all_filled h = weak.all_filled t x k (comes w) h

-- a tree that is not over-long has few records
pub short_count : (t : List ℕ) (b : Bool) → b ≡ malformed t → b ≡ false → count t < refusals
short_count t b q h = let l : length t ≤ longest = tree_short t (sym q ∙ h) in omega arith

-- no two answers satisfy the contract
pub unique : (m : Mode) (t x : List ℕ) (a b : Answer) → ChecksIn m t x a → ChecksIn m t x b → a ≡ b
unique m t x a b p q =
    p.answers
    ∙ ap (λ (e : Encoding). answer_in m e t x) (encoded_unique x p.encoding q.encoding p.encoded q.encoded)
    ∙ sym q.answers
