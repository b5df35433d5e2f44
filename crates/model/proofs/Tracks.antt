-- `Tracks` holds after every fresh start, and every call keeps it with equal replies. Assumes nothing.
use mathlib.Core.Path.{◌≡◌, refl, sym, ap, ◌∙◌}
use mathlib.Core.List.{List, [], ◌∷◌, ◌++◌}
use Rattle.setup.specs.declared.Setup.{Setup}
use Rattle.setup.specs.Setup.{with_defaults}
use Rattle.port.specs.declared.Operation.{Operation}
use Rattle.model.specs.Runs.{Machine, reply_of, after, after_all, fresh}
use Rattle.model.specs.Ledger.{Ledger, fresh_ledger, entered}
use Rattle.model.specs.Promises.{start_word, booked}
use Rattle.model.specs.Tracks.{TracksFresh, TracksReply, TracksAfter}
use Rattle.model.proofs.Entered.{booked-append}
use Rattle.model.proofs.Signed.{reply-run}

after_last : (g : Setup) (ops : List Operation) (op : Operation) (w : Machine) → after_all g (ops ++ op ∷ []) w ≡ after g op (after_all g ops w)
unfolding after_all
after_last g [] op w = refl
after_last g (o ∷ ops) op w = after_last g ops op (after g o w)

pub tracks_fresh : TracksFresh
unfolding after_all booked
tracks_fresh g w₀ h = record { starts = h; ops = []; machine = refl; ledger = refl }

pub tracks_reply : TracksReply
tracks_reply g w₀ w l op k =
    ap (reply_of g op) k.machine
    ∙ reply-run g w₀ k.starts k.ops op
    ∙ sym (ap (λ (x : Ledger). (entered (with_defaults g) (start_word g w₀) op x).0) k.ledger)

pub tracks_after : TracksAfter
unfolding booked
tracks_after g w₀ w l op k =
    record {
      starts = k.starts;
      ops = k.ops ++ op ∷ [];
      machine = ap (after g op) k.machine ∙ sym (after_last g k.ops op (fresh g w₀));
      ledger =
          ap (λ (x : Ledger). (entered (with_defaults g) (start_word g w₀) op x).1) k.ledger
          ∙ sym (booked-append (with_defaults g) (start_word g w₀) k.ops (op ∷ []) fresh_ledger);
    }
