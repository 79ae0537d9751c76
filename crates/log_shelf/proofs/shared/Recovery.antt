-- Hashes that compare as equal are one. For proofs of other crates.
use Rattle.std.proofs.Common.{◌≡◌, refl, true}
use Rattle.std.specs.declared.cmp.Ordering.{Ordering}
use Rattle.std.specs.declared.cmp.Ordering.TheVariants.{Less, Equal, Greater}
use Rattle.std.specs.Ordering.{nat_cmp, is_eq, eq_by_cmp}
use Rattle.log_shelf.proofs.Indexes.{same_hash}
use Rattle.std.specs.Cmp.Lexicographic.{slice_cmp}
use Rattle.ledger_spec.specs.Bytes.{Hash}

is_equal : (r : Ordering) → is_eq r ≡ true → r ≡ Equal
is_equal Less e = absurd (cc)
is_equal Equal e = refl
is_equal Greater e = absurd (cc)

pub same_key : (h k : Hash) → eq_by_cmp (slice_cmp nat_cmp) h k ≡ true → h ≡ k
same_key h k e = same_hash h k (is_equal (slice_cmp nat_cmp h k) e)
