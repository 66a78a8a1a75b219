use Rattle.std.proofs.Common.{◌≡◌, ◌∷◌, [], ◌++◌, vec_items, Ok, rules}
use Rattle.study.specs.declared.statements.Line.TheVariants.{Reference, Entry, Ask}
use Rattle.study.specs.Statements.{line_of}
use Rattle.study.specs.Studies.{next_order}
use Rattle.study.specs.Sound.{SoundSoFar}
use Rattle.study.specs.Views.{view}
use Rattle.study.proofs.Soundness.{line_says, refer_kept, enter_kept, ask_kept, pushed}
use Rattle.study.proofs.drafts.Draft.take.Goals as goal

pub invariant_of-self : goal.invariant_of-self
invariant_of-self c =
    let s = c.args.self.now in
    let read : line_of c.args.text.now ≡ Ok (Reference c.in-Reference.field-0) = search rules in
    record { sound = refer_kept s.reference (vec_items s.orders) (vec_items s.asks) c.in-Reference.field-0 (line_says c.args.text.now _ read) s.sound }

pub invariant_of-self-in-Entry : goal.invariant_of-self-in-Entry
invariant_of-self-in-Entry c =
    let s = c.args.self.now in
    let os = vec_items s.orders in
    let qs = vec_items s.asks in
    let o = c.in-Entry.order in
    let p = c.in_ok-order-in-Entry.order in
    let read : line_of c.args.text.now ≡ Ok (Entry o) = search rules in
    let next : next_order (view s) o ≡ Ok p = search rules in
    record {
      sound = pushed _ _ (os ++ (p ∷ [])) os (λ l. SoundSoFar (record { reference = s.reference; orders = l; asks = qs })) c.push.ensures.items
          (enter_kept s.reference os qs o p (line_says c.args.text.now _ read) next s.sound) s.sound;
    }

pub invariant_of-self-in-Ask : goal.invariant_of-self-in-Ask
invariant_of-self-in-Ask c =
    let s = c.args.self.now in
    let os = vec_items s.orders in
    let qs = vec_items s.asks in
    let o = c.in-Ask.order in
    let read : line_of c.args.text.now ≡ Ok (Ask o) = search rules in
    record {
      sound = pushed _ _ (qs ++ (o ∷ [])) qs (λ l. SoundSoFar (record { reference = s.reference; orders = os; asks = l })) c.push-in-Ask.ensures.items
          (ask_kept s.reference os qs o (line_says c.args.text.now _ read) s.sound) s.sound;
    }
