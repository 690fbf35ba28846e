-- The bytes of the frames that are always the same.
use Rattle.std.proofs.Common.{ℕ, ◌≡◌, List, codes, refl}
use Rattle.std.specs.Fmt.{digits}
use Rattle.program_requests.specs.Frames.{taken_frame, starved_frame, long_frame, cut_frame}

pub taken_is : ◌≡◌ {A = List ℕ} (codes "0 0\n") taken_frame
unfolding digits
taken_is = refl

pub starved_is : ◌≡◌ {A = List ℕ} (codes "3 0\n") starved_frame
unfolding digits
starved_is = refl

pub long_is : ◌≡◌ {A = List ℕ} (codes "1 27\na request line is too long\n") long_frame
unfolding digits
long_is = refl

pub cut_is : ◌≡◌ {A = List ℕ} (codes "1 32\nthe rules end before their size\n") cut_frame
unfolding digits
cut_is = refl
