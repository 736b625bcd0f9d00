-- What the code's products and differences of numbers of 64 bits are.
use Rattle.std.proofs.Common.{◌≡◌, ◌<◌, ◌^◌, ℤ, ◌-ℤ◌, ◌*ℤ◌, unsigned_abs, FitsSigned, to_z, of_z, w64}
use Rattle.std.proofs.lemmas.Int.{to_z-of_z}
use Rattle.fraction128.proofs.Products.{own_part_read, fits_part}

pub read : (x : ℤ) → FitsSigned w64 x → to_z w64 (of_z w64 x) ≡ x
read x fits = to_z-of_z w64 x fits

pub product_read : (x y : ℤ) → FitsSigned w64 x → FitsSigned w64 y → unsigned_abs (x *ℤ y) < 2 ^ 63
    → to_z w64 (of_z w64 (to_z w64 (of_z w64 x) *ℤ to_z w64 (of_z w64 y))) ≡ x *ℤ y
product_read x y fits_x fits_y small = rw (read x fits_x, read y fits_y) (own_part_read (x *ℤ y) small)

-- x less the product of f and y
pub less_fits : (x f y : ℤ) → FitsSigned w64 x → FitsSigned w64 f → FitsSigned w64 y → unsigned_abs (f *ℤ y) < 2 ^ 63
    → unsigned_abs (x -ℤ (f *ℤ y)) < 2 ^ 63
    → FitsSigned w64 (to_z w64 (of_z w64 x) -ℤ to_z w64 (of_z w64 (to_z w64 (of_z w64 f) *ℤ to_z w64 (of_z w64 y))))
less_fits x f y fits_x fits_f fits_y product small =
    rw (read x fits_x, product_read f y fits_f fits_y product) (fits_part (x -ℤ (f *ℤ y)) small)

pub less_read : (x f y : ℤ) → FitsSigned w64 x → FitsSigned w64 f → FitsSigned w64 y → unsigned_abs (f *ℤ y) < 2 ^ 63
    → unsigned_abs (x -ℤ (f *ℤ y)) < 2 ^ 63
    → to_z w64 (of_z w64 (to_z w64 (of_z w64 x) -ℤ to_z w64 (of_z w64 (to_z w64 (of_z w64 f) *ℤ to_z w64 (of_z w64 y)))))
    ≡ x -ℤ (f *ℤ y)
less_read x f y fits_x fits_f fits_y product small =
    rw (read x fits_x, product_read f y fits_f fits_y product) (own_part_read (x -ℤ (f *ℤ y)) small)
