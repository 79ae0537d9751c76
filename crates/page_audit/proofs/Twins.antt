-- The ledgers of two runs that answer whole for one hash, each in its form, are whole ledgers of that hash.
use Rattle.std.proofs.Common.{◌≡◌, inl, inr, ⊎_elim, ℕ, List, [], ◌∷◌, ◌++◌, Option, None, sym, ◌∙◌, subst}
use Rattle.std.specs.List.{AllByRecursion}
use Rattle.json.specs.Json.{Json, Items as Elements, no_items, item}
use Rattle.ledger_spec.specs.declared.Kind.TheVariants.{State, Tx}
use Rattle.ledger_spec.specs.Bytes.{Bytes, Hash, Half, Items}
use Rattle.ledger_spec.specs.Forms.{IsHeld, leaf}
use Rattle.ledger_spec.specs.Header.{seq_of}
use Rattle.ledger_spec.specs.Tree.{Entry, IsByteEntry, AreItems}
use Rattle.tree_laws.proofs.shared.Orders.{all_append}
use Rattle.audit_core.specs.declared.answer.Answer.TheVariants.{Whole}
use Rattle.audit_core.specs.declared.answer.Sum.{Sum}
use Rattle.audit_core.specs.Said.{Said, items_or_none}
use Rattle.audit_core.specs.Verdicts.{ledger_hash}
use Rattle.audit_core.specs.Twins.{IsWhole}
use Rattle.audit_core.proofs.shared.Behind.{none_rises}
use Rattle.audit_core.proofs.shared.Decoded.{decoded_bytes}
use Rattle.audit_core.proofs.shared.Twins.{wholes_are_one}
use Rattle.plain_audit.specs.Answers.{IsAnswer}
use Rattle.plain_audit.proofs.shared.Told.{accepted_told, text_items}
use Rattle.page_audit.specs.Pages.{IsPagesAnswer}
use Rattle.page_audit.specs.Texts.{AreElements, ArePages, IsPagesText}
use Rattle.page_audit.specs.Twins.{PagesHaveItems, Gives, AnswersWhole, WholeRunsGiveTwins}
use Rattle.page_audit.proofs.Told.{accepted_pages}

module _ (half : Half) where
  -- entries of two digits a byte, within their limits
  abbrev AreGood : Items → Type 0
  AreGood items = AllByRecursion (λ (e : Entry). IsHeld half (leaf State e.0 e.1)) items × AllByRecursion IsByteEntry items

  good_append : (xs ys : Items) → AreGood xs → AreGood ys → AreGood (xs ++ ys)
  good_append xs ys a b = (
    all_append (λ (e : Entry). IsHeld half (leaf State e.0 e.1)) xs ys a.0 b.0,
    all_append IsByteEntry xs ys a.1 b.1,
  )

  elements_good : (ds : Elements) (items : Items) → AreElements ds items → AreGood items
  elements_good no_items [] each = (tt, tt)
  elements_good no_items (e ∷ items) each = absurd each
  elements_good (item d ds) [] each = absurd each
  elements_good (item d ds) (e ∷ items) each =
      let rest = elements_good ds items each.1 in
      let own : IsByteEntry e = (decoded_bytes each.0.key_text e.0 each.0.key.value, decoded_bytes each.0.data_text e.1 each.0.bytes) in
      ((each.0.item, rest.0), (own, rest.1))

  pages_good : (hash : Hash) (seq : ℕ) (docs : List Json) (items : Items) → ArePages hash seq docs items → AreGood items
  pages_good hash seq [] items pages = absurd pages
  pages_good hash seq (d ∷ []) items pages = elements_good pages.list items pages.each
  pages_good hash seq (d ∷ e ∷ docs) items pages =
      subst AreGood (sym pages.2)
      (good_append pages.0 pages.1 (elements_good pages.3.list pages.0 pages.3.each) (pages_good hash seq (e ∷ docs) pages.1 pages.4))

  pages_state : (bytes : Bytes) (hash : Hash) (s : Said) → IsPagesText bytes hash s → AreItems half State s.items
  pages_state bytes hash s is =
      let good : AreGood s.items = ⊎_elim (λ listed. pages_good hash (seq_of s.header) is.docs s.items listed)
      (λ alone. pages_good hash (seq_of s.header) is.tell.behind s.items alone.1) is.tell.pages in
      record { rising = is.tell.rising; each = good.0; bytes = good.1 }

  no_txs : AreItems half Tx []
  no_txs = record { rising = none_rises; each = tt; bytes = tt }

  pages_txs : (bytes : Bytes) (hash : Hash) (s : Said) → IsPagesText bytes hash s → AreItems half Tx (items_or_none s.txs)
  pages_txs bytes hash s is =
      let none : None ≡ s.txs = sym is.tell.txs in subst (λ (o : Option Items). AreItems half Tx (items_or_none o)) none no_txs

  -- the whole ledger of a run, in its form
  record Ran (bytes : Bytes) (sum : Sum) : Type 0 where
    said : Said
    gives : Gives bytes said
    whole : IsWhole half said
    hash : sum.hash ≡ ledger_hash half said

  ran_plain : (bytes : Bytes) (sum : Sum) (expect : Option Hash) → IsAnswer half expect bytes (Whole sum) → Ran bytes sum
  ran_plain bytes sum expect is =
      let a = accepted_told half expect bytes (Whole sum) is tt in
      let items = text_items half bytes a.0 a.1 in
      record {
        said = a.0;
        gives = inl a.1;
        whole = record { maps = record { state = items.0; txs = items.1 }; own = a.2.1; own_txs = a.2.2 };
        hash = a.2.3.hash;
      }

  ran_pages : (bytes : Bytes) (sum : Sum) (expect : Option Hash) → IsPagesAnswer half expect bytes (Whole sum) → Ran bytes sum
  ran_pages bytes sum expect is =
      let a = accepted_pages half expect bytes (Whole sum) is tt in
      record {
        said = a.1;
        gives = inr (a.0, a.2);
        whole = record {
          maps = record { state = pages_state bytes a.0 a.1 a.2; txs = pages_txs bytes a.0 a.1 a.2 };
          own = a.3.1;
          own_txs = a.3.2;
        };
        hash = a.3.3.hash;
      }

  ran : (bytes : Bytes) (sum : Sum) → AnswersWhole half bytes sum → Ran bytes sum
  ran bytes sum answers =
      ⊎_elim (λ plain. ran_plain bytes sum plain.0 plain.1) (λ pages. ran_pages bytes sum pages.0 pages.1) answers

pub pages_items : PagesHaveItems
pages_items half bytes hash s is = pages_state half bytes hash s is

pub runs_give_twins : WholeRunsGiveTwins
runs_give_twins half is bytes others sum too first second hash =
    let a = ran half bytes sum first in
    let b = ran half others too second in
    record {
      said = a.said;
      other = b.said;
      gives = a.gives;
      gives_other = b.gives;
      one = wholes_are_one half is a.said b.said a.whole b.whole (sym a.hash ∙ hash ∙ b.hash);
    }
