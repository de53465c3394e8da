-- What evaluation unfolds: a proof that names `computes` computes with all of these.
use Rattle.image.specs.{Blocks.{byte_sum, block, record_of, place_of, size_of, preface, record_at, block_of, blocks_of, unmarked_file, unmarked_bare, unopened_stream, without_opens, image_part}, Alone.{record_in, well_formed, header_alone, file_alone, link_placed, link_alone, stream_placed, stream_alone, record_alone, block_alone}, Image.{whole_blocks, checked_row, write_image, spare_for, put_block, read_block, read_blocks, read_row, read_rows, read_image, restorable, checked_image, finish_image}}

unfoldable pub computes : Unit {0}
unfolding byte_sum block record_of place_of size_of preface record_at block_of blocks_of unmarked_file unmarked_bare unopened_stream without_opens image_part
    record_in well_formed header_alone file_alone link_placed link_alone stream_placed stream_alone record_alone block_alone
    whole_blocks checked_row write_image spare_for put_block read_block read_blocks read_row read_rows read_image restorable checked_image finish_image
computes = tt
