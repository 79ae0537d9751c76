-- What is given under a hash is what is held of what is stored there. For proofs of other crates.
use Rattle.std.proofs.Common.{◌≡◌, is_some, Option, Some, None, sym, ap, subst, ◌∙◌}
use Rattle.std.specs.FinMap as finite
use Rattle.std.specs.FinMap.{get-retain_keys}
use Rattle.ledger_spec.specs.Bytes.{Bytes, Hash, Half, Nodes}
use Rattle.ledger_spec.specs.Own.{own_form}
use Rattle.node_backend.proofs.shared.Tables.{hashes_antisymmetric}
use Rattle.path_proof.specs.Sources.{Fetched, Gives}
use Rattle.rotating_store.specs.Sources.{own_nodes}
use Rattle.rotating_store.proofs.Sources.{own_or_none}

-- what is given under a hash is what is held of what is stored there
pub own_at : (half : Half) (nodes : Nodes) (h : Hash) → finite.get (own_nodes half nodes) h ≡ own_form half h (finite.get nodes h)
own_at half nodes h =
    let test = λ (q : Hash). is_some (own_form half q (finite.get nodes q)) in
    get-retain_keys nodes test h (λ x tied. ap test (sym (hashes_antisymmetric h x tied)))
    ∙ own_or_none half h (finite.get nodes h)

-- where this form is stored, and where nothing is
pub given_at : (half : Half) (nodes : Nodes) (h : Hash) (form : Bytes) (r : Fetched) → Some form ≡ finite.get nodes h
    → Gives half (own_form half h (Some form)) r → Gives half (finite.get (own_nodes half nodes) h) r
given_at half nodes h form r is gives =
    subst (λ (o : Option Bytes). Gives half o r) (ap (own_form half h) is ∙ sym (own_at half nodes h)) gives

pub none_at : (half : Half) (nodes : Nodes) (h : Hash) → None ≡ finite.get nodes h → finite.get (own_nodes half nodes) h ≡ None
none_at half nodes h is = own_at half nodes h ∙ ap (own_form half h) (sym is)
