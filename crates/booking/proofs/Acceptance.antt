-- Demand 2: Book accepts exactly the calls that `Acceptable` (specs/Acceptable) describes, in plain terms.
--     accepted_exactly      the accepted calls
-- Assumes nothing.
use mathlib.Core.Path.{◌≡◌}
use mathlib.Core.Logic.Iff
use mathlib.Core.Logic.{◌↔◌}
use mathlib.Core.Bool.{true}
use mathlib.Core.List.{List}
use Prim.Native.Nat.{ℕ}
use lib.ListN.{length}
use Rattle.bill_files.specs.Accepted.{BillFile}
use Rattle.entries.specs.declared.Entry.{Entry}
use Rattle.soundness.specs.Sound.{is_sound}
use Rattle.soundness.proofs.Meaning.{sound_means}
use Rattle.booking.specs.Booking.{Input, file_of, ledger_of, is_booked}
use Rattle.booking.specs.Acceptable.{LedgerAccepts, Acceptable}
use Rattle.booking.proofs.Accepting.{LedgerPasses, accepted_unrefused}
use Rattle.booking.proofs.KeptSound.{used_sound}
use Rattle.booking.proofs.Meaning.{KeysOnce, test_8, test_39_and_40, test_102}

-- ---- tests that read the ledger: what their searches answer is what they ask
ledger_accepts : (places : ℕ) (l : List Entry) (file : BillFile) → KeysOnce l → LedgerPasses places l file ↔ LedgerAccepts places l file
ledger_accepts places l file keys = (
  λ p.
      let stored = (test_102 l file).0 p.unstored in
      record {
        new_file = (test_8 l file).0 p.new_file;
        cancels = (test_39_and_40 l file keys).0 (p.named, p.opposed);
        new_header = stored.0;
        new_bills = λ i k h m. stored.1 k m i h;
        room = p.room;
      },
  λ a.
      let searched = (test_39_and_40 l file keys).1 a.cancels in
      record {
        new_file = (test_8 l file).1 a.new_file;
        named = searched.0;
        opposed = searched.1;
        unstored = (test_102 l file).1 (a.new_header, λ k m i h. a.new_bills i k h m);
        room = a.room;
      },
)

pub accepted_exactly : (i : Input) → (is_booked i ≡ true) ↔ Acceptable i
accepted_exactly i = Iff.trans (accepted_unrefused i) (
  λ u.
      record {
        settings = u.settings;
        sound = (sound_means i.run i.used).0 u.sound;
        small = u.small;
        passing = u.passing;
        ledger = (ledger_accepts (length i.run) (ledger_of i) (file_of i) (keys u.sound)).0 u.ledger;
      },
  λ a.
      let sound = (sound_means i.run i.used).1 a.sound in
      record {
        settings = a.settings;
        sound = sound;
        small = a.small;
        passing = a.passing;
        ledger = (ledger_accepts (length i.run) (ledger_of i) (file_of i) (keys sound)).1 a.ledger;
      },
)
  where
    keys : is_sound i.run i.used ≡ true → KeysOnce (ledger_of i)
    keys t = (used_sound i.run i.used t).keys
