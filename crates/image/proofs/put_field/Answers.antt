-- What is put is the definition's field: of the long one the bytes that the row's size has.
use Rattle.std.proofs.Common.{◌≡◌, sym, ap, ◌∙◌, ◌+◌, ℕ, ℤ, List, length, take, arith, w64, FitsSigned, to_z, of_z}
use Rattle.std.proofs.Math.Facts.{to_z-of_z}
use Rattle.objects.specs.Table.{row_at}
use Rattle.objects.specs.declared.Row.{Row}
use Rattle.coding.specs.Coding.{number_of}
use Rattle.image.specs.Fields.{HEADER, field_length, field_of, long_field}
use Rattle.image.proofs.Lengths.{sized, size_most, length_field}
use Rattle.image.proofs.Stored.{long_field_cut}
use Rattle.image.proofs.put_field.Goals as goal

-- the part that is put, of what the three calls handed back
module _ (place : ℕ) {row : Row} {number : ℕ} {bytes : List ℕ} {value : ℤ} (f : FitsSigned w64 value)
    (r : row ≡ row_at place) (n : number ≡ number_of row.size (to_z w64 (of_z w64 value))) (b : bytes ≡ long_field place row.size number) where
  part : take (HEADER + row.size) bytes ≡ field_of place value
  part = simp (b, n, to_z-of_z f, r, long_field_cut)

  part_length : length (take (HEADER + row.size) bytes) ≡ field_length place
  part_length = rw part (length_field place value)

pub slice_bounds-bytes-end : goal.slice_bounds-bytes-end
slice_bounds-bytes-end c = omega (arith, ap (λ row. HEADER + row.size) c.row_at-row.ensures, size_most (sized c.args.place))

pub slice_bounds-put-end : goal.slice_bounds-put-end
slice_bounds-put-end c =
    ap (λ row. HEADER + row.size) c.row_at-row.ensures
    ∙ sym (part_length c.args.place c.ranges.value c.row_at-row.ensures c.number_of-number.ensures c.field-bytes.ensures)

pub returns : goal.returns
returns c =
    let p = part c.args.place c.ranges.value c.row_at-row.ensures c.number_of-number.ensures c.field-bytes.ensures in
    let l = part_length c.args.place c.ranges.value c.row_at-row.ensures c.number_of-number.ensures c.field-bytes.ensures in
    c.put.ensures ∙ rw (l, p)
