-- What receiving is where a replica is in form, by the conditions of its list: each law is for the condition that decides,
-- below those that do not hold.
use mathlib.Core.Path.{◌≡◌}
use mathlib.Core.Bool.{true, false}
use Rattle.woot.specs.declared.Operation.{Operation}
use Rattle.answers.specs.declared.Refusal.TheVariants.{Conflict, Crossed, Unplaceable, SenderFull, DocumentFull}
use Rattle.answers.specs.declared.Answer.TheVariants.{Done, Duplicate, Refused}
use Rattle.woot.specs.Ranges.{in_range}
use Rattle.woot.specs.State.{State}
use Rattle.woot.specs.Pending.{executable, crossed, unplaceable}
use Rattle.answers.specs.Answers.{decided}
use Rattle.woot.specs.Calls.{unchanged, duplicate, conflicting, sender_full, document_full, receive_checks, carry_out, defer, accept, receive_when}

module _ (s : State) (o : Operation) (ranged : in_range o ≡ true) where
  pub known : duplicate s o ≡ true → receive_when true s o ≡ unchanged s Duplicate
  unfolding receive_when receive_checks decided
  known e = rw (ranged, e)

  module _ (new : duplicate s o ≡ false) where
    pub conflict : conflicting s o ≡ true → receive_when true s o ≡ unchanged s (Refused Conflict)
    unfolding receive_when receive_checks decided
    conflict e = rw (ranged, new, e)

    module _ (sole : conflicting s o ≡ false) where
      pub cross : crossed s.characters o ≡ true → receive_when true s o ≡ unchanged s (Refused Crossed)
      unfolding receive_when receive_checks decided
      cross e = rw (ranged, new, sole, e)

      module _ (straight : crossed s.characters o ≡ false) where
        pub placeless : unplaceable s.characters o ≡ true → receive_when true s o ≡ unchanged s (Refused Unplaceable)
        unfolding receive_when receive_checks decided
        placeless e = rw (ranged, new, sole, straight, e)

        module _ (placed : unplaceable s.characters o ≡ false) where
          pub sender-full : sender_full s o ≡ true → receive_when true s o ≡ unchanged s (Refused SenderFull)
          unfolding receive_when receive_checks decided
          sender-full e = rw (ranged, new, sole, straight, placed, e)

          module _ (share : sender_full s o ≡ false) where
            pub document-full : document_full s o ≡ true → receive_when true s o ≡ unchanged s (Refused DocumentFull)
            unfolding receive_when receive_checks decided
            document-full e = rw (ranged, new, sole, straight, placed, share, e)

            module _ (space : document_full s o ≡ false) where
              pub deferred : executable s.characters o ≡ false → receive_when true s o ≡ defer s o
              unfolding receive_when receive_checks decided accept
              deferred e = rw (ranged, new, sole, straight, placed, share, space, e)

              pub carried : executable s.characters o ≡ true → receive_when true s o ≡ carry_out Done s o
              unfolding receive_when receive_checks decided accept
              carried e = rw (ranged, new, sole, straight, placed, share, space, e)
