mod SameParts
