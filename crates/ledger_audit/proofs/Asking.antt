-- Words ask for one thing at most.
use Rattle.std.proofs.Common.{◌≡◌, List, [], ◌∷◌, length, None, Some, refl, sym, ap, ◌∙◌, arith}
use Rattle.std.specs.Prelude.{codes}
use Rattle.half_hash.specs.Hex.{IsHexOf}
use Rattle.ledger_spec.specs.Bytes.{Bytes, Hash}
use Rattle.ledger_audit.specs.declared.words.Asked.{Asked}
use Rattle.ledger_audit.specs.declared.words.Asked.TheVariants.{Pages, Plain, Path}
use Rattle.ledger_audit.specs.Words.{Asks}

-- digits are of one hash
one_hash : (t u h k : Bytes) → IsHexOf t h → IsHexOf u k → t ≡ u → h ≡ k
one_hash t u h k first second same =
    let a = first.value in
    let b = second.value in
    cc

-- lists of different lengths are different
differ : (words a b : List Bytes) → words ≡ a → words ≡ b → length a ≡ length b
differ words a b first second = ap length (sym first ∙ second)

pub asks_one : (words : List Bytes) (a b : Asked) → Asks words a → Asks words b → a ≡ b
asks_one words (Pages None) (Pages None) p q = refl
asks_one words (Pages None) (Pages (Some k)) p q = let e = differ words _ _ p q.1 in absurd (omega (arith, e))
asks_one words (Pages None) (Plain None) p q = let e = differ words _ _ p q in absurd (omega (arith, e))
asks_one words (Pages None) (Plain (Some k)) p q = let e = differ words _ _ p q.1 in absurd (omega (arith, e))
asks_one words (Pages None) (Path s k) p q = let e = differ words _ _ p q.2 in absurd (omega (arith, e))
asks_one words (Pages (Some h)) (Pages None) p q = let e = differ words _ _ p.1 q in absurd (omega (arith, e))
asks_one words (Pages (Some h)) (Pages (Some k)) p q =
    let e : codes "--expect" ∷ p.0 ∷ [] ≡ codes "--expect" ∷ q.0 ∷ [] = sym p.1 ∙ q.1 in
    let t : p.0 ≡ q.0 = cc in
    ap (λ (x : Hash). Pages (Some x)) (one_hash p.0 q.0 h k p.2 q.2 t)
asks_one words (Pages (Some h)) (Plain None) p q = let e = differ words _ _ p.1 q in absurd (omega (arith, e))
asks_one words (Pages (Some h)) (Plain (Some k)) p q = let e = differ words _ _ p.1 q.1 in absurd (omega (arith, e))
asks_one words (Pages (Some h)) (Path s k) p q = let e = differ words _ _ p.1 q.2 in absurd (omega (arith, e))
asks_one words (Plain None) (Pages None) p q = let e = differ words _ _ p q in absurd (omega (arith, e))
asks_one words (Plain None) (Pages (Some k)) p q = let e = differ words _ _ p q.1 in absurd (omega (arith, e))
asks_one words (Plain None) (Plain None) p q = refl
asks_one words (Plain None) (Plain (Some k)) p q = let e = differ words _ _ p q.1 in absurd (omega (arith, e))
asks_one words (Plain None) (Path s k) p q = let e = differ words _ _ p q.2 in absurd (omega (arith, e))
asks_one words (Plain (Some h)) (Pages None) p q = let e = differ words _ _ p.1 q in absurd (omega (arith, e))
asks_one words (Plain (Some h)) (Pages (Some k)) p q = let e = differ words _ _ p.1 q.1 in absurd (omega (arith, e))
asks_one words (Plain (Some h)) (Plain None) p q = let e = differ words _ _ p.1 q in absurd (omega (arith, e))
asks_one words (Plain (Some h)) (Plain (Some k)) p q =
    let e : codes "--plain" ∷ codes "--expect" ∷ p.0 ∷ [] ≡ codes "--plain" ∷ codes "--expect" ∷ q.0 ∷ [] = sym p.1 ∙ q.1 in
    let t : p.0 ≡ q.0 = cc in
    ap (λ (x : Hash). Plain (Some x)) (one_hash p.0 q.0 h k p.2 q.2 t)
asks_one words (Plain (Some h)) (Path s k) p q =
    let e : codes "--plain" ∷ codes "--expect" ∷ p.0 ∷ [] ≡ codes "--path" ∷ q.0 ∷ q.1 ∷ [] = sym p.1 ∙ q.2 in
    let word : codes "--plain" ≡ codes "--path" = cc in
    let size : length (codes "--plain") ≡ length (codes "--path") = ap length word in
    absurd (omega (arith, size))
asks_one words (Path r h) (Pages None) p q = let e = differ words _ _ p.2 q in absurd (omega (arith, e))
asks_one words (Path r h) (Pages (Some k)) p q = let e = differ words _ _ p.2 q.1 in absurd (omega (arith, e))
asks_one words (Path r h) (Plain None) p q = let e = differ words _ _ p.2 q in absurd (omega (arith, e))
asks_one words (Path r h) (Plain (Some k)) p q =
    let e : codes "--path" ∷ p.0 ∷ p.1 ∷ [] ≡ codes "--plain" ∷ codes "--expect" ∷ q.0 ∷ [] = sym p.2 ∙ q.1 in
    let word : codes "--path" ≡ codes "--plain" = cc in
    let size : length (codes "--path") ≡ length (codes "--plain") = ap length word in
    absurd (omega (arith, size))
asks_one words (Path r h) (Path s k) p q =
    let e : codes "--path" ∷ p.0 ∷ p.1 ∷ [] ≡ codes "--path" ∷ q.0 ∷ q.1 ∷ [] = sym p.2 ∙ q.2 in
    let t : p.0 ≡ q.0 = cc in
    let u : p.1 ≡ q.1 = cc in
    let root : r ≡ s = one_hash p.0 q.0 r s p.3 q.3 t in
    let key : h ≡ k = one_hash p.1 q.1 h k p.4 q.4 u in
    ap (λ (x : Hash). Path x h) root ∙ ap (λ (x : Hash). Path s x) key
