-- What a source gave for the hash that was wanted, over what it held from the start. For proofs of other crates.
use Rattle.std.proofs.Common.{◌≡◌, Bool, IsTrue, Option}
use Rattle.std.proofs.Common.{subst}
use Rattle.ledger_spec.specs.Bytes.{Hash, Half, Lookup}
use Rattle.std.proofs.Common.{Result}
use Rattle.path_proof.specs.declared.source.FetchFault.{FetchFault}
use Rattle.path_proof.specs.Sources.{Gives, HasHash}
use Rattle.path_proof.specs.Progressing.{IsFetched}
use Rattle.std.specs.declared.sync.Arc.{Arc}
use Rattle.std.specs.declared.alloc.Global.{Global}
use Rattle.shamap_node.specs.declared.Node.{Node}

-- what a source gave for the hash that was wanted, over what it held from the start
pub fetched_as : (half : Half) (tells : Bool) (nodes now : Lookup) (h wanted : Hash)
    (fetched : Result (Option (Arc Node Global)) FetchFault)
    → h ≡ wanted → (IsTrue tells → now ≡ nodes) → HasHash half h fetched → (IsTrue tells → Gives half (now h) fetched)
    → IsFetched half tells nodes wanted fetched
fetched_as half tells nodes now h wanted fetched is same hash exact = record {
  hash = subst (λ x. HasHash half x fetched) is hash;
  exact = λ told. subst (λ x. Gives half (nodes x) fetched) is (subst (λ (f : Lookup). Gives half (f h) fetched) (same told) (exact told));
}
