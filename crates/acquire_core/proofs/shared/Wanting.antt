-- A header and roots that have the wanted hashes charge nobody. For proofs of other crates.
use Rattle.std.proofs.Common.{◌≡◌, ◌==◌, ℕ, Bool, true, false, if◌then◌else◌, [], ◌++◌, length, Option, None, Some, IfSome}
use Rattle.std.proofs.Common.{Result, Ok, Err, IfOk, refl, sym, ap, ◌∙◌, subst}
use Rattle.ledger_spec.specs.declared.Kind.{Kind}
use Rattle.ledger_spec.specs.declared.Kind.TheVariants.{State, Tx}
use Rattle.ledger_spec.specs.declared.outcomes.Offered.{Offered}
use Rattle.ledger_spec.specs.declared.outcomes.HeadOffered.{HeadOffered}
use Rattle.ledger_spec.specs.declared.outcomes.HeadOffered.TheVariants as head
use Rattle.ledger_spec.specs.Bytes.{Bytes, Hash, Half, Lookup, same_bytes}
use Rattle.ledger_spec.specs.Forms.{header_prefix}
use Rattle.ledger_spec.specs.Offers.{Clash, head_given, head_outcome, node_outcome}
use Rattle.ledger_spec.specs.Bases.{Judged, given, joined, root_outcome, behind_header, behind_state, base_outcome}
use Rattle.ledger_spec.specs.Peers.{Peers}
use Rattle.ledger_spec.specs.Acquiring.{Acquiring, is_bad, is_bad_head, is_bad_root, after_outcome, after_judging}
use Rattle.ledger_spec.proofs.shared.OfferLaws.{ok_same, err_ok}
use Rattle.ledger_spec.proofs.shared.Owning.{same_self}
use Rattle.node_offer.proofs.shared.Wanted.{never_bad}
use Rattle.acquire_core.specs.Replies.{IsWanted, AreWanted}

-- what stands where a base reply was judged to its end
record AreJudged (a : Result HeadOffered Clash) (b c : Result (Option Offered) Clash) (j : Judged) : Type 0 where
  header : a ≡ Ok j.header
  state : b ≡ Ok j.state
  tx : c ≡ Ok j.tx

joined_parts : (a : Result HeadOffered Clash) (b c : Result (Option Offered) Clash) (j : Judged) → joined a b c ≡ Ok j → AreJudged a b c j
joined_parts (Err k) b c j e = absurd (err_ok e)
joined_parts (Ok h) (Err k) c j e = absurd (err_ok e)
joined_parts (Ok h) (Ok x) (Err k) j e = absurd (err_ok e)
joined_parts (Ok h) (Ok x) (Ok y) j e =
    let same : record { header = h; state = x; tx = y } ≡ j = ok_same e in
    record {
      header = ap (λ (q : Judged). Ok q.header) same;
      state = ap (λ (q : Judged). Ok q.state) same;
      tx = ap (λ (q : Judged). Ok
          q.tx) same;
    }

header_held : (b : Bool) (c : Clash) (h : HeadOffered) → (if b then Ok head.Duplicate else Err c) ≡ Ok h → is_bad_head h ≡ false
header_held true c h e = sym (ap is_bad_head (ok_same e))
header_held false c h e = absurd (err_ok e)

header_given : (t : Hash) (form : Bytes) (o : Option Bytes) (h : HeadOffered) → head_given t form o ≡ Ok h → is_bad_head h ≡ false
header_given t form None h e = sym (ap is_bad_head (ok_same e))
header_given t form (Some old) h e = header_held (same_bytes old form) (record { hash = t; old = old; new = form }) h e

header_wanted : (half : Half) (nodes : Lookup) (t : Hash) (header : Bytes) (h : HeadOffered) → length header ≡ 118
    → half (header_prefix ++ header) ≡ t → head_outcome half nodes t header ≡ Ok h → is_bad_head h ≡ false
header_wanted half nodes t header h size own e =
    let form : Bytes = header_prefix ++ header in
    let long : (length header == 118) ≡ true = ap (λ n. n == 118) size in
    let same : same_bytes (half form) t ≡ true = ap (λ x. same_bytes x t) own ∙ same_self t in
    let there : head_outcome half nodes t header ≡ head_given t form (nodes t) = rw (long, same) refl in
    header_given t form (nodes t) h (sym there ∙ e)

root_given : (r : Result Offered Clash) (o : Option Offered) → IfOk r (λ x. is_bad x ≡ false) → given r ≡ Ok o → is_bad_root o ≡ false
root_given (Ok x) o good e = sym (ap is_bad_root (ok_same e)) ∙ good
root_given (Err c) o good e = absurd (err_ok e)

root_wanted : (half : Half) (nodes : Lookup) (t : Hash) (kind : Kind) (blob : Option Bytes) (o : Option Offered)
    → IfSome blob (IsWanted half nodes t kind []) → root_outcome half nodes t kind blob ≡ Ok o → is_bad_root o ≡ false
root_wanted half nodes t kind None o is e = sym (ap is_bad_root (ok_same e))
root_wanted half nodes t kind (Some blob) o is e =
    root_given (node_outcome half nodes t kind [] blob) o (never_bad half nodes t kind [] blob is.node _ is.parent is.read is.place refl) e

none_bad : (p : ℕ) (a b c : Bool) (s : Peers) → a ≡ false → b ≡ false → c ≡ false
    → after_outcome p c (after_outcome p b (after_outcome p a s)) ≡ s
none_bad p a b c s x y z = rw (x, y, z) refl

-- no outcome is bad, so nothing is charged
pub nobody_charged : (half : Half) (nodes : Lookup) (t : Hash) (header : Bytes) (state tx : Option Bytes) (p : ℕ) (j : Judged)
    (peers : Peers)
    → AreWanted half nodes t header state tx → base_outcome half nodes t header state tx ≡ Ok j → after_judging p j peers ≡ peers
nobody_charged half nodes t header state tx p j peers are e =
    let parts : AreJudged _ _ _ j = joined_parts _ _ _ j e in
    let head : is_bad_head j.header ≡ false = header_wanted half nodes t header j.header are.size are.own parts.header in
    let first : is_bad_root j.state ≡ false = root_wanted half (behind_header half nodes t header state tx) t State state j.state
    are.state_root parts.state in
    let second : is_bad_root j.tx ≡ false = root_wanted half (behind_state half nodes t header state tx) t Tx tx j.tx are.tx_root
    parts.tx in
    none_bad p (is_bad_head j.header) (is_bad_root j.state) (is_bad_root j.tx) peers head first second

-- so the acquisition stays as it was
pub stays : (half : Half) (nodes : Lookup) (a : Acquiring) (t : Hash) (seq : ℕ) (peers after : Peers) (header : Bytes) (state tx :
    Option Bytes)
    (p : ℕ) (j : Judged) → record { target = t; seq = seq; peers = peers } ≡ a → AreWanted half nodes a.target header state tx
    → base_outcome half nodes t header state tx ≡ Ok j → after ≡ after_judging p j peers
    → record { target = t; seq = seq; peers = after } ≡ a
stays half nodes a t seq peers after header state tx p j is are e charged =
    let here : AreWanted half nodes t header state tx = subst (λ (x : Acquiring). AreWanted half nodes x.target header state tx) (sym
    is) are in
    ap (λ (q : Peers). record { target = t; seq = seq; peers = q }) (charged
    ∙ nobody_charged half nodes t header state tx p j peers here e) ∙ is
